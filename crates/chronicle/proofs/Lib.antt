mod AsciiLemmas
