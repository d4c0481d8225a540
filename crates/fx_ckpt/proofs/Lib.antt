mod Lasting
