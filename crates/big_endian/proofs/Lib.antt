mod Std
mod Ends
