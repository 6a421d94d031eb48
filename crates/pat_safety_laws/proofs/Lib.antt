-- for others: that typable programs are safe
pub mod Safe
-- the crate's own
mod Accounts
mod FaultParts
mod FaultGuard
mod GuardFaults
mod Progress
mod Endings
mod Waiting
-- for others: what no fault and the endings are proved from
mod Balance
pub mod Refers
mod ThreadHoldings
mod Envs
pub mod Narrow
mod Frames
mod Bound
pub mod Args
mod Received
pub mod Preserved
mod SplitBalance
mod Messages
mod Replace
mod Moves
mod Payloads
mod Agree
mod Interfaces
mod StartTyped
mod PrintKeeps
mod IfKeeps
mod EndKeeps
mod SpawnKeeps
mod FreeKeeps
mod NewKeeps
mod ReceiveHoldings
mod ReceiveBalance
mod ReceiveKeeps
mod ReturnKeeps
mod LetKeeps
mod ValueKeeps
mod CallKeeps
mod LocalKeeps
mod SendKeeps
