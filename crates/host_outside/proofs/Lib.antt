mod Known
mod Told
