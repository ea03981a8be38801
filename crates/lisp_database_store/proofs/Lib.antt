mod Opened
mod EachNonce
