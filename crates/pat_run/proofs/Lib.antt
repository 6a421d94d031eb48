mod Choosing
mod Serving
mod Given
