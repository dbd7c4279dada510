mod Number
