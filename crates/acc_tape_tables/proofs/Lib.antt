mod Chairs
