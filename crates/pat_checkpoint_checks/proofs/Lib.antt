mod Breaking
