mod OfFile
