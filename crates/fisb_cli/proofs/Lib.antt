mod FirstWord
mod NoMemory
