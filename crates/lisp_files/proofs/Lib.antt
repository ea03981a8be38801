mod Closings
