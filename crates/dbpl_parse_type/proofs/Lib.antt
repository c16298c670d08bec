mod Depth
