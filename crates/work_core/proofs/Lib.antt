mod ChainKeys
mod Places
mod Shares
