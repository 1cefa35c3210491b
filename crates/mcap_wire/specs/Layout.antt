-- How numbers, texts and records lie in a file.
use Rattle.std.specs.Prelude.{ℕ, zero, suc, ◌+◌, ◌-◌, ◌*◌, ◌^◌, ◌/◌, ◌%◌, List, [], ◌∷◌, ◌++◌, length, take, drop, ◌≡◌, ◌<◌, ◌≤◌}

-- the n bytes of a number, lowest first
unfoldable pub le : ℕ → ℕ → List ℕ
le zero v = []
le (suc n) v = (v % 256) ∷ le n (v / 256)

-- the number whose bytes these are, lowest first
unfoldable pub number : List ℕ → ℕ
number [] = 0
number (b ∷ bytes) = b + 256 * number bytes

-- a string: its length in four bytes, then its bytes
abbrev pub string : List ℕ → List ℕ
string bytes = le 4 (length bytes) ++ bytes

-- bytes behind their length, which stands in n bytes
abbrev pub prefixed : ℕ → List ℕ → List ℕ
prefixed n bytes = le n (length bytes) ++ bytes

-- a record: its opcode, the length of its content in eight bytes, its content
abbrev pub framed : ℕ → List ℕ → List ℕ
framed op content = op ∷ (le 8 (length content) ++ content)

-- the largest content of a record, in bytes
abbrev pub content_limit : ℕ
content_limit = 2 ^ 28

-- the eight bytes at both ends of a file
abbrev pub magic : List ℕ
magic = 137 ∷ 77 ∷ 67 ∷ 65 ∷ 80 ∷ 48 ∷ 13 ∷ 10 ∷ []

-- the bytes from one offset to another
abbrev pub part : ℕ → ℕ → List ℕ → List ℕ
part from to bytes = take (to - from) (drop from bytes)

-- a field stands from one offset to another
pub record FieldAt (content : List ℕ) (at end : ℕ) (spelled : List ℕ) : Type 0 where
  pub spelled_there : drop at content ≡ spelled ++ drop end content
  pub begins : at ≤ end
  pub ends : end ≤ length content

-- a number of n bytes stands there
pub record NumberAt (n : ℕ) (content : List ℕ) (at value end : ℕ) : Type 0 where
  pub field : FieldAt content at end (le n value)
  pub size : end ≡ at + n
  pub fits : value < 256 ^ n

-- the length that stands in front of a text
abbrev pub text_length : List ℕ → ℕ → ℕ
text_length content at = number (take 4 (drop at content))

-- the bytes behind that length
abbrev pub text_bytes : List ℕ → ℕ → List ℕ
text_bytes content at = take (text_length content at) (drop (at + 4) content)

-- the length, in n bytes, that stands in front of bytes
abbrev pub bytes_length : ℕ → List ℕ → ℕ → ℕ
bytes_length n content at = number (take n (drop at content))
