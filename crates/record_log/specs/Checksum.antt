-- CRC-32 as RFC 1952 (section 8) and ITU-T V.42 (8.1.1.6.2) have it, with the bits of each byte
-- from the lowest on. Its check value, of the nine bytes "123456789", is 0xCBF43926.
use Rattle.std.specs.Prelude.{ℕ, ◌/◌, ◌%◌, List, [], ◌∷◌, if◌then◌else◌, ◌==◌, bit_xor}

-- division by x: where a bit falls out, the polynomial 0xEDB88320 is subtracted, which is xor
abbrev pub crc_bit : ℕ → ℕ
crc_bit rest = if rest % 2 == 1 then bit_xor (rest / 2) 3988292384 else rest / 2

-- the eight bits of a byte
unfoldable pub crc_byte : ℕ → ℕ → ℕ
crc_byte rest byte = crc_bit (crc_bit (crc_bit (crc_bit (crc_bit (crc_bit (crc_bit (crc_bit (bit_xor rest byte))))))))

-- the remainder of these bytes behind an earlier remainder
abbrev pub crc_over : ℕ → List ℕ → ℕ
crc_over rest [] = rest
crc_over rest (byte ∷ bytes) = crc_over (crc_byte rest byte) bytes

-- all ones before the first byte, and the complement of the remainder
unfoldable pub crc32 : List ℕ → ℕ
crc32 bytes = bit_xor (crc_over 4294967295 bytes) 4294967295
