mod Lists
mod Gives
mod CellCalls
