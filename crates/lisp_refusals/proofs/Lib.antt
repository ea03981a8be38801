mod Writing
mod Known
