-- The front of a chunk.
use Rattle.std.proofs.Common.{◌≡◌, ℕ, ◌+◌, ◌-◌, ◌^◌, ◌<◌, ◌≤◌, List, ◌++◌, length, take, drop, refl, sym, ap, subst, ◌∙◌, append_assoc, arith}
use Rattle.std.specs.Prelude.{◌≢◌}
use Rattle.std.proofs.lemmas.List.{take-append-drop, drop-append-le, drop-drop, drop-take, take-take, take_at, drop_at, length-append}
use Rattle.mcap_wire.specs.Layout.{le, number, prefixed, NumberAt, text_length}
use Rattle.mcap_wire.proofs.Numbers.{length-le, number-le}
use Rattle.rec_index.specs.Fields.{ChunkFields}
use Rattle.mcap_model.specs.Tops.{Top, declared_length, first_top}
use Rattle.mcap_model.specs.Fields.{IsChunk}
use Rattle.mcap_model.proofs.Readings.{length-top}
use Rattle.indexed_replay.specs.Reaching.{ChunkEndsAt, LacksChunk}
use Rattle.indexed_replay.specs.Steps.{FrontStands, LacksRecord}
use Rattle.indexed_replay.specs.Chunks.{FrontAsked}
use Rattle.indexed_replay.specs.Costs.{front_length, plain_length}
use Rattle.indexed_replay.proofs.Headed.{there_begun}

-- ---- the compression in a content

module _ (t : Top) (g : ChunkFields) (is : IsChunk t g) where
  abbrev front : List ℕ
  front = le 8 g.start ++ (le 8 g.end ++ (le 8 g.size ++ le 4 g.crc))

  abbrev more : List ℕ
  more = let layout = is.layout in prefixed 8 g.records ++ layout.0

  length-front : length front ≡ 28
  length-front = simp (length-append, length-le) refl

  split : t.content ≡ front ++ (le 4 (length g.compression) ++ (g.compression ++ more))
  split = let layout = is.layout in let row = layout.1 in row.spelled_there ∙ regroup (le 8 g.start) (le 8 g.end) (le 8 g.size) (le 4 g.crc) (le 4 (length g.compression)) g.compression (prefixed 8 g.records ++ layout.0)
    where
      regroup : (a b c d e f x : List ℕ) → a ++ (b ++ (c ++ (d ++ ((e ++ f) ++ x)))) ≡ (a ++ (b ++ (c ++ d))) ++ (e ++ (f ++ x))
      regroup a b c d e f x = simp append_assoc refl

  name_fits : length g.compression < 2 ^ 32
  name_fits = let layout = is.layout in let row = layout.1 in let fit = row.fit in fit.1.1.1.1.0.0

  behind : drop 28 t.content ≡ le 4 (length g.compression) ++ (g.compression ++ more)
  behind = ap (drop 28) split ∙ drop_at front (le 4 (length g.compression) ++ (g.compression ++ more)) 28 length-front

  pub name_length : text_length t.content 28 ≡ length g.compression
  name_length = ap (λ (l : List ℕ). number (take 4 l)) behind ∙ ap number (take_at (le 4 (length g.compression)) (g.compression ++ more) 4 (length-le 4 (length g.compression))) ∙ number-le 4 (length g.compression) name_fits

  pub chunk_long : 40 + length g.compression ≤ length t.content
  chunk_long = let layout = is.layout in omega (arith, ap length split, length-front, length-append front (le 4 (length g.compression) ++ (g.compression ++ more)), length-append (le 4 (length g.compression)) (g.compression ++ more), length-le 4 (length g.compression), length-append g.compression more, length-append (prefixed 8 g.records) layout.0, length-append (le 8 (length g.records)) g.records, length-le 8 (length g.records))

-- ---- where no chunk stands

pub lacks_front : (file : List ℕ) (at n : ℕ) → n ≡ 49 → LacksRecord file at n → LacksChunk file at
lacks_front file at n size lacks = λ t g there is.
    let long = chunk_long t g is in
    lacks t there (omega (arith, size, length-top t, long)) (λ zero. omega (arith, zero, is.kind))

pub lacks_opcode : (file out : List ℕ) (at op len : ℕ) → FrontStands file at out op len → op ≢ 6 → LacksChunk file at
lacks_opcode file out at op len front other = λ t g there is.
    let only = front.only in
    other (sym front.op_is ∙ sym (ap (λ (u : Top). u.op) (only t there)) ∙ is.kind)

-- ---- the length of the compression in a front

pub front_name : (file out : List ℕ) (at op len value end : ℕ) → FrontStands file at out op len → length out ≡ 49 → NumberAt 4 out 37 value end → text_length (first_top (drop at file)).content 28 ≡ value
front_name file out at op len value end front size there =
    let rest = drop at file in
    let more = drop (length out) rest in
    let all : rest ≡ out ++ more = sym (take-append-drop (length out) rest) ∙ ap (λ (l : List ℕ). l ++ more) (sym front.front) in
    let field = there.field in
    let behind : drop 37 rest ≡ le 4 value ++ (drop end out ++ more) = ap (drop 37) all ∙ drop-append-le 37 out more (omega (arith, size)) ∙ ap (λ (l : List ℕ). l ++ more) field.spelled_there ∙ append_assoc (le 4 value) (drop end out) more in
    let long = front.long in
    let parts : declared_length rest ≡ 28 + (len - 28) = omega (arith, front.len_is, long, size) in
    let cut : drop 28 (take (declared_length rest) (drop 9 rest)) ≡ take (len - 28) (drop 37 rest) =
    ap (λ (n : ℕ). drop 28 (take n (drop 9 rest))) parts ∙ drop-take 28 (len - 28) (drop 9 rest) ∙ ap (take (len - 28)) (drop-drop 28 9 rest) in
    let four : take 4 (take (len - 28) (drop 37 rest)) ≡ take 4 (drop 37 rest) = take-take 4 (len - 28) (drop 37 rest) (omega (arith, long, size)) in
    ap (λ (l : List ℕ). number (take 4 l)) cut ∙ ap number four ∙ ap (λ (l : List ℕ). number (take 4 l)) behind ∙ ap number (take_at (le 4 value) (drop end out ++ more) 4 (length-le 4 value)) ∙ number-le 4 value there.fits

pub front_size : (file out : List ℕ) (at op len : ℕ) → FrontStands file at out op len → length (first_top (drop at file)).content ≡ len
front_size file out at op len front = let b = there_begun file at (first_top (drop at file)) front.there in sym b.1 ∙ front.len_is

pub lacks_name : (file out : List ℕ) (at op len value end : ℕ) → FrontStands file at out op len → length out ≡ 49 → NumberAt 4 out 37 value end → len < 40 + value → LacksChunk file at
lacks_name file out at op len value end front size there short = λ t g here is.
    let only = front.only in
    let same = only t here in
    let own = subst (λ (u : Top). IsChunk u g) same is in
    omega (arith, chunk_long (first_top (drop at file)) g own, name_length (first_top (drop at file)) g own, front_name file out at op len value end front size there, front_size file out at op len front, short)

-- ---- a chunk that is looked at

-- where a chunk ends whose front was read
pub chunk_ends : (file out : List ℕ) (at op len after end : ℕ) → FrontStands file at out op len → length out ≡ 49 → op ≡ 6 → NumberAt 4 out 37 0 after → end ≡ at + 9 + len → ChunkEndsAt file at end
chunk_ends file out at op len after end front size six none is = record {
  chunk = first_top (drop at file);
  there = front.there;
  kind = front.op_is ∙ six;
  unpacked = front_name file out at op len 0 after front size none;
  is = omega (arith, is, length-top (first_top (drop at file)), front_size file out at op len front);
}

-- ---- what is asked for of it

pub front_asked : (file : List ℕ) (at before now : ℕ) → now ≤ before + plain_length → FrontAsked file at before now
front_asked file at before now few = record { packed = λ size is. omega (arith, few); plain = λ none. few }

pub pack_asked : (file out : List ℕ) (at op len value end before now : ℕ) → FrontStands file at out op len → length out ≡ 49 → op ≡ 6 → NumberAt 4 out 37 value end → value ≢ 0 → front_length + value ≤ len → now ≤ before + (plain_length + (front_length + value)) → FrontAsked file at before now
pack_asked file out at op len value end before now front size six there some room few =
    let named = front_name file out at op len value end front size there in
    record {
      packed = λ n is.
          let only = front.only in
          let same = ap (λ (t : Top). text_length t.content 28) (only is.chunk is.there) in
          omega (arith, few, same, named, is.named);
      plain = λ none. absurd (none value (record { chunk = first_top (drop at file); there = front.there; kind = front.op_is ∙ six; named = named; some = some; room = omega (arith, room, front_size file out at op len front) }));
    }
