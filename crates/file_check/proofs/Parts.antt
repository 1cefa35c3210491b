-- Parts of a file that are read by themselves.
use Rattle.std.proofs.Common.{◌≡◌, ℕ, ◌+◌, ◌-◌, ◌<◌, ◌≤◌, List, [], ◌++◌, length, take, drop, refl, sym, ap, ◌∙◌, append_assoc, arith}
use Rattle.std.proofs.lemmas.List.{take_at, append-nil, take-append-drop, take_all, take-take, drop-drop, drop-take, drop_at, length-append, length-drop}
use Rattle.mcap_wire.specs.Layout.{le, magic}
use Rattle.mcap_model.specs.Rules.{V1}
use Rattle.mcap_model.specs.Whole.{EndsWithMagic}

-- the last eight bytes of a file
abbrev last_of : List ℕ → List ℕ
last_of file = take 8 (drop (length file - 8) file)

all_of_it : (file : List ℕ) → 8 ≤ length file → last_of file ≡ drop (length file - 8) file
all_of_it file long = take_all 8 (drop (length file - 8) file) (omega (arith, long, length-drop (length file - 8) file))

pub ends_whole : (file : List ℕ) → 8 ≤ length file → EndsWithMagic (last_of file) → EndsWithMagic file
ends_whole file long (start, is) = (
  take (length file - 8) file ++ start,
  sym (take-append-drop (length file - 8) file)
      ∙ ap (λ (l : List ℕ). take (length file - 8) file ++ l) (sym (all_of_it file long) ∙ is)
      ∙ sym (append_assoc (take (length file - 8) file) start magic),
)

pub whole_ends : (file : List ℕ) → 8 ≤ length file → EndsWithMagic file → EndsWithMagic (last_of file)
whole_ends file long (start, is) =
    let size : length file - 8 ≡ length start = omega (arith, ap length is, length-append start magic) in (
      [],
      all_of_it file long ∙ ap (drop (length file - 8)) is ∙ drop_at start magic (length file - 8) (sym size),
    )

-- the first eight bytes of a file
pub begins_whole : (file : List ℕ) → V1 (take 8 file) → V1 file
begins_whole file (rest, is) = (rest ++ drop 8 file, sym (take-append-drop 8 file) ∙ ap (λ (l : List ℕ). l ++ drop 8 file) is ∙ append_assoc magic rest (drop 8 file))

pub whole_begins : (file : List ℕ) → V1 file → V1 (take 8 file)
whole_begins file (rest, is) = ([], ap (take 8) is ∙ take_at magic rest 8 refl ∙ sym (append-nil magic))

pub too_brief : (file : List ℕ) (len : ℕ) → length file ≡ len → len < 8 → V1 file → ⊥
too_brief file len size short (rest, is) = omega (arith, size, short, ap length is, length-append magic rest)

-- the length in a head, in the bytes in front of an end
pub head_there : (file head : List ℕ) (offset end n : ℕ) → head ≡ take 9 (drop offset file) → offset + 9 ≤ end → take 8 (drop 1 head) ≡ le 8 n → take 8 (drop (offset + 1) (take end file)) ≡ le 8 n
head_there file head offset end n is room len =
    let inner : take 8 (drop (offset + 1) (take end file)) ≡ take 8 (drop (offset + 1) file) =
    ap (λ (k : ℕ). take 8 (drop (offset + 1) (take k file))) split
    ∙ ap (take 8) (drop-take (offset + 1) (end - (offset + 1)) file)
    ∙ take-take 8 (end - (offset + 1)) (drop (offset + 1) file) (omega (arith, room)) in
    let front : take 8 (drop 1 head) ≡ take 8 (drop (offset + 1) file) =
    ap (λ (l : List ℕ). take 8 (drop 1 l)) is
    ∙ ap (take 8) (drop-take 1 8 (drop offset file))
    ∙ take-take 8 8 (drop 1 (drop offset file)) (omega arith)
    ∙ ap (take 8) (drop-drop 1 offset file) in
    inner ∙ sym front ∙ len
  where
    split : end ≡ (offset + 1) + (end - (offset + 1))
    split = omega (arith, room)
