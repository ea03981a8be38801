mod Warned
mod Numbers
mod Taken
