-- The front of a record that stands at an offset.
use Rattle.std.proofs.Common.{◌≡◌, ℕ, ◌+◌, ◌^◌, ◌<◌, ◌≤◌, List, [], ◌∷◌, ◌++◌, length, take, drop, sym, ap, subst, ◌∙◌, append_assoc, arith}
use Rattle.std.specs.Prelude.{slice_index}
use Rattle.std.proofs.lemmas.List.{take-append-drop, drop-append-le, drop-drop, take_at, length-append, length-drop, length-take-le}
use Rattle.mcap_wire.specs.Layout.{le, number, content_limit}
use Rattle.mcap_wire.specs.Reading.{HeadAt}
use Rattle.mcap_wire.proofs.Numbers.{length-le, number-le}
use Rattle.mcap_model.specs.Tops.{Top, top_bytes, opcode, declared_length, first_top}
use Rattle.mcap_model.specs.Made.{top}
use Rattle.mcap_model.specs.Led.{IsThere}
use Rattle.mcap_model.proofs.Readings.{length-top, begun}
use Rattle.indexed_replay.specs.Reaching.{IsTooLong}
use Rattle.indexed_replay.specs.Steps.{FrontStands, LacksRecord}

first_cons : (out : List ℕ) (op : ℕ) → op ≡ slice_index out 0 → 1 ≤ length out → out ≡ op ∷ drop 1 out
first_cons [] op is long = absurd (omega (arith, long))
first_cons (x ∷ xs) op is long = ap (λ (o : ℕ). o ∷ xs) (sym is)

front_split : (rest out : List ℕ) (op len : ℕ) → out ≡ take (length out) rest → 9 ≤ length out → HeadAt out 0 op len → rest ≡ op ∷ (le 8 len ++ drop 9 rest)
front_split rest out op len front long head =
    let more = drop (length out) rest in
    let all : rest ≡ out ++ more = sym (take-append-drop (length out) rest) ∙ ap (λ (l : List ℕ). l ++ more) (sym front) in
    let number_there = head.len_there in
    let field = number_there.field in
    let inner : out ≡ op ∷ (le 8 len ++ drop 9 out) = first_cons out op head.opcode (omega (arith, long)) ∙ ap (λ (l : List ℕ). op ∷ l) field.spelled_there in
    let nine : drop 9 rest ≡ drop 9 out ++ more = ap (drop 9) all ∙ drop-append-le 9 out more long in
    all ∙ ap (λ (l : List ℕ). l ++ more) inner ∙ ap (λ (l : List ℕ). op ∷ l) (append_assoc (le 8 len) (drop 9 out) more)
    ∙ ap (λ (l : List ℕ). op ∷ (le 8 len ++ l)) (sym nine)

head_len : (rest : List ℕ) (op len : ℕ) → len < 2 ^ 64 → rest ≡ op ∷ (le 8 len ++ drop 9 rest) → declared_length rest ≡ len
head_len rest op len fits is =
    ap (λ (l : List ℕ). number (take 8 (drop 1 l))) is ∙ ap number (take_at (le 8 len) (drop 9 rest) 8 (length-le 8 len)) ∙ number-le 8 len fits

len_fits : (out : List ℕ) (op len : ℕ) → HeadAt out 0 op len → len < 2 ^ 64
len_fits out op len head = let number_there = head.len_there in omega (arith, number_there.fits)

pub there_begun : (file : List ℕ) (at : ℕ) (t : Top) → IsThere file at t → (opcode (drop at file) ≡ t.op) × (declared_length (drop at file) ≡ length t.content) × (first_top (drop at file) ≡ t) × (at + length (top_bytes t) ≤ length file)
there_begun file at t there =
    let stands = there.stands in
    let b = begun (drop at file) t stands.rest stands.there there.short in
    (b.op_is, b.len_is, b.first, omega (arith, ap length stands.there, length-append (top_bytes t) stands.rest, length-top t, length-drop at file))

pub front_stands : (file out : List ℕ) (at size op len : ℕ) → length file ≡ size → out ≡ take (length out) (drop at file) → 9 ≤ length out → HeadAt out 0 op len → at + 9 + len ≤ size → length out ≤ 9 + len → FrontStands file at out op len
front_stands file out at size op len is front long head whole more =
    let rest = drop at file in
    let fits = len_fits out op len head in
    let split = front_split rest out op len front long head in
    let content = take len (drop 9 rest) in
    let behind = drop len (drop 9 rest) in
    let content_size : length content ≡ len = length-take-le len (drop 9 rest) (omega (arith, length-drop 9 rest, length-drop at file, is, whole)) in
    let t = top op content in
    let same : rest ≡ top_bytes t ++ behind =
    split ∙ ap (λ (l : List ℕ). op ∷ (le 8 len ++ l)) (sym (take-append-drop len (drop 9 rest)))
    ∙ ap (λ (l : List ℕ). op ∷ l) (sym (append_assoc (le 8 len) content behind))
    ∙ ap (λ (n : ℕ). op ∷ ((le 8 n ++ content) ++ behind)) (sym content_size) in
    let there : IsThere file at t = record { stands = record { rest = behind; there = same }; short = omega (arith, content_size, fits) } in
    let b = there_begun file at t there in
    record {
      front = front;
      long = more;
      whole = omega (arith, is, whole);
      op_is = b.0;
      len_is = head_len rest op len fits split;
      there = subst (λ (u : Top). IsThere file at u) (sym b.2) there;
      only = λ u there_u. let c = there_begun file at u there_u in sym c.2;
    }

-- no record stands there, where it would pass the end
pub past_end : (file : List ℕ) (at size n : ℕ) → length file ≡ size → size < at + n → LacksRecord file at n
past_end file at size n is past = λ t there long some. let b = there_begun file at t there in omega (arith, is, past, long, b.3)

-- or where its head declares that it would, or a shorter one
pub head_apart : (file out : List ℕ) (at size op len : ℕ) → length file ≡ size → out ≡ take (length out) (drop at file) → 9 ≤ length out → HeadAt out 0 op len
    → (t : Top) → IsThere file at t → length t.content ≡ len
head_apart file out at size op len is front long head t there =
    let split = front_split (drop at file) out op len front long head in
    let b = there_begun file at t there in
    sym b.1 ∙ head_len (drop at file) op len (len_fits out op len head) split

-- a record there has a content past the limit
pub too_long : (file out : List ℕ) (at op len : ℕ) → FrontStands file at out op len → content_limit < len → IsTooLong file at
too_long file out at op len front past =
    let t = first_top (drop at file) in
    let b = there_begun file at t front.there in
    record { top = t; there = front.there; past = omega (arith, past, b.1, front.len_is) }

-- the record there, once its content was read
pub front_whole : (file out content : List ℕ) (at op len kind : ℕ) → FrontStands file at out op len → op ≡ kind → content ≡ take len (drop (at + 9) file) → IsThere file at (top kind content)
front_whole file out content at op len kind front is same =
    let rest = drop at file in
    let inner : drop 9 rest ≡ drop (at + 9) file = drop-drop 9 at file in
    let whole : take (declared_length rest) (drop 9 rest) ≡ content = ap (λ (n : ℕ). take n (drop 9 rest)) front.len_is ∙ ap (take len) inner ∙ sym same in
    let found : first_top rest ≡ top kind content = ap (λ (o : ℕ). top o (take (declared_length rest) (drop 9 rest))) (front.op_is ∙ is) ∙ ap (top kind) whole in
    subst (λ (t : Top). IsThere file at t) found front.there
