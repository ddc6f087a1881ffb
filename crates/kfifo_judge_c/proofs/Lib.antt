mod Answering
mod Logs
mod Pictures
mod Refusing
