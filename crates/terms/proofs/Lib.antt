mod Searching
