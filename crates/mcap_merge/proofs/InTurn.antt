-- The messages of all inputs, put in their order.
use Rattle.std.proofs.Common.{◌≡◌, ◌⊎◌, ℕ, zero, suc, ◌+◌, ◌<◌, List, [], ◌∷◌, ◌++◌, map, refl, sym, ap, subst, inl, inr, ◌∙◌, arith}
use Rattle.std.specs.Prelude.{filter}
use Rattle.std.specs.List.{flat_map}
use Rattle.std.proofs.lemmas.Bool.{cases_order}
use Rattle.mcap_model.specs.declared.replay.Place.{Place}
use Rattle.mcap_model.specs.Places.{At, Has}
use Rattle.mcap_model.specs.Tops.{Top}
use Rattle.mcap_model.specs.Scan.{Seen, Scan, PlaceBefore}
use Rattle.mcap_model.specs.Repaired.{is_extra}
use Rattle.mcap_model.specs.Merged.{Sent, IsFrom, MergesBefore, AreInTurn}
use Rattle.mcap_model.proofs.Places.{at_none, at_one}
use Rattle.mcap_model.proofs.Lists.{at_either, pairs_at}
use Rattle.mcap_model.proofs.Members.{has_second}
use Rattle.mcap_model.proofs.Places.{has_kept}
use Rattle.mcap_model.proofs.NamedTopics.{unmapped}
use Rattle.mcap_model.proofs.PlacesApart.{scan_rises}
use Rattle.mcap_model.proofs.Flat.{at_mapped}
use Rattle.mcap_merge.specs.declared.input.Input.{Input}
use Rattle.mcap_merge.specs.Inputs.{HoldInputs}
use Rattle.mcap_merge.specs.ReadInputs.{Read, read_tops}
use Rattle.mcap_merge.specs.Writing.{extras_of}
use Rattle.mcap_merge.proofs.Inserted.{in_order}
use Rattle.mcap_merge.proofs.Sources.{AreScanned, from_read, sent, message_from}

-- ---- the order

place_next : (p q r : Place) → PlaceBefore p q → PlaceBefore q r → PlaceBefore p r
place_next p q r (inl a) (inl b) = inl (omega (arith, a, b))
place_next p q r (inl a) (inr b) = inl (omega (arith, a, b.0))
place_next p q r (inr a) (inl b) = inl (omega (arith, a.0, b))
place_next p q r (inr a) (inr b) = inr (a.0 ∙ b.0, omega (arith, a.1, b.1))

-- of messages of one time
abbrev Later : Sent → Sent → Type 0
Later a b = (a.input < b.input) ⊎ ((a.input ≡ b.input) × PlaceBefore a.seen.place b.seen.place)

later_next : (a b c : Sent) → Later a b → Later b c → Later a c
later_next a b c (inl p) (inl q) = inl (omega (arith, p, q))
later_next a b c (inl p) (inr q) = inl (omega (arith, p, q.0))
later_next a b c (inr p) (inl q) = inl (omega (arith, p.0, q))
later_next a b c (inr p) (inr q) = inr (p.0 ∙ q.0, place_next a.seen.place b.seen.place c.seen.place p.1 q.1)

merges_next : (a b c : Sent) → MergesBefore a b → MergesBefore b c → MergesBefore a c
merges_next a b c (inl p) (inl q) = inl (omega (arith, p, q))
merges_next a b c (inl p) (inr q) = inl (omega (arith, p, q.0))
merges_next a b c (inr p) (inl q) = inl (omega (arith, p.0, q))
merges_next a b c (inr p) (inr q) = inr (p.0 ∙ q.0, later_next a b c p.1 q.1)

not_before : (p q : Place) → p.top ≡ q.top → p.inner ≡ q.inner → PlaceBefore p q → ⊥
not_before p q top inner (inl less) = omega (arith, top, less)
not_before p q top inner (inr (same, less)) = omega (arith, inner, less)

-- two messages of a file that stand at one place are one
seen_once : (r : Read) (i j : ℕ) (s t : Seen) → Scan r.tops r.messages → At r.messages i s → At r.messages j t → s.place.top ≡ t.place.top → s.place.inner ≡ t.place.inner → s ≡ t
seen_once r i j s t scan at_s at_t top inner =
    let rises = scan_rises r.tops r.messages scan in
    elim (cases_order i j) [
      | inl same ↦ at_one r.messages j s t (subst (λ (n : ℕ). At r.messages n s) same at_s) at_t
      | inr (inl less) ↦ absurd (not_before s.place t.place top inner (pairs_at (λ (x : Seen) (y : Seen). PlaceBefore x.place y.place) r.messages rises i j s t less at_s at_t))
      | inr (inr less) ↦ absurd (not_before t.place s.place (sym top) (sym inner) (pairs_at (λ (x : Seen) (y : Seen). PlaceBefore x.place y.place) r.messages rises j i t s less at_t at_s))
    ]

sent_one : (m n : Sent) → m.input ≡ n.input → m.seen ≡ n.seen → m ≡ n
sent_one m n input seen = ap (λ (k : ℕ). sent k m.seen) input ∙ ap (sent n.input) seen

module _ (reads : List Read) (scanned : AreScanned reads) where
  pub one_message : (m n : Sent) → IsFrom (read_tops reads) m → IsFrom (read_tops reads) n → m.input ≡ n.input → m.seen.place.top ≡ n.seen.place.top → m.seen.place.inner ≡ n.seen.place.inner → m ≡ n
  one_message m n from_m from_n input top inner =
      let a = from_read reads m scanned from_m in
      let b = from_read reads n scanned from_n in
      let same : b.read ≡ a.read = at_one reads n.input b.read a.read b.at (subst (λ (k : ℕ). At reads k a.read) input a.at) in
      let there : At a.read.messages b.has.0 n.seen = subst (λ (r : Read). At r.messages b.has.0 n.seen) same b.has.1 in
      sent_one m n input (seen_once a.read a.has.0 b.has.0 m.seen n.seen (scanned m.input a.read a.at).1 a.has.1 there top inner)

  abbrev Decided : Sent → Sent → Type 0
  Decided m n = (m ≡ n) ⊎ (MergesBefore m n ⊎ MergesBefore n m)

  by_inner : (m n : Sent) → IsFrom (read_tops reads) m → IsFrom (read_tops reads) n → m.seen.message.log_time ≡ n.seen.message.log_time → m.input ≡ n.input → m.seen.place.top ≡ n.seen.place.top → Decided m n
  by_inner m n from_m from_n time input top = elim (cases_order m.seen.place.inner n.seen.place.inner) [
    | inl same ↦ inl (one_message m n from_m from_n input top same)
    | inr (inl less) ↦ inr (inl (inr (time, inr (input, inr (top, less)))))
    | inr (inr less) ↦ inr (inr (inr (sym time, inr (sym input, inr (sym top, less)))))
  ]

  by_top : (m n : Sent) → IsFrom (read_tops reads) m → IsFrom (read_tops reads) n → m.seen.message.log_time ≡ n.seen.message.log_time → m.input ≡ n.input → Decided m n
  by_top m n from_m from_n time input = elim (cases_order m.seen.place.top n.seen.place.top) [
    | inl same ↦ by_inner m n from_m from_n time input same
    | inr (inl less) ↦ inr (inl (inr (time, inr (input, inl less))))
    | inr (inr less) ↦ inr (inr (inr (sym time, inr (sym input, inl less))))
  ]

  by_input : (m n : Sent) → IsFrom (read_tops reads) m → IsFrom (read_tops reads) n → m.seen.message.log_time ≡ n.seen.message.log_time → Decided m n
  by_input m n from_m from_n time = elim (cases_order m.input n.input) [
    | inl same ↦ by_top m n from_m from_n time same
    | inr (inl less) ↦ inr (inl (inr (time, inl less)))
    | inr (inr less) ↦ inr (inr (inr (sym time, inl less)))
  ]

  merges_either : (m n : Sent) → IsFrom (read_tops reads) m → IsFrom (read_tops reads) n → Decided m n
  merges_either m n from_m from_n = elim (cases_order m.seen.message.log_time n.seen.message.log_time) [
    | inl same ↦ by_input m n from_m from_n same
    | inr (inl less) ↦ inr (inl (inl less))
    | inr (inr less) ↦ inr (inr (inl less))
  ]

-- ---- all messages

-- those of the inputs from a number on
abbrev sents_from : ℕ → List Read → List Sent
sents_from number [] = []
sents_from number (r ∷ rs) = map (sent number) r.messages ++ sents_from (suc number) rs

-- it is a message of one of them
record IsListed (number : ℕ) (reads : List Read) (m : Sent) : Type 0 where
  place : ℕ
  read : Read
  at : At reads place read
  input : m.input ≡ number + place
  has : Has read.messages m.seen

listed : (number : ℕ) (reads : List Read) (k : ℕ) (m : Sent) → At (sents_from number reads) k m → IsListed number reads m
listed number [] k m at = absurd (at_none k m at)
listed number (r ∷ rs) k m at = elim (at_either (map (sent number) r.messages) (sents_from (suc number) rs) k m at) [
  | inl here ↦
      let (s, there, same) = unmapped (sent number) r.messages k m here in
      record {
        place = 0;
        read = r;
        at = refl;
        input = let is : number ≡ m.input = ap (λ (x : Sent). x.input) same in omega (arith, is);
        has = (k, subst (At r.messages k) (ap (λ (x : Sent). x.seen) same) there);
      }
  | inr (j, is, later) ↦
      let found = listed (suc number) rs j m later in
      record { place = suc found.place; read = found.read; at = found.at; input = omega (arith, found.input); has = found.has }
]

lists : (number : ℕ) (reads : List Read) (place : ℕ) (r : Read) (s : Seen) → At reads place r → Has r.messages s → Has (sents_from number reads) (sent (number + place) s)
lists number [] place r s at has = absurd (at_none place r at)
lists number (x ∷ rs) zero r s at has =
    let same : x ≡ r = at_one (x ∷ rs) zero x r refl at in
    let here : Has (map (sent number) x.messages) (sent number s) = (has.0, at_mapped (sent number) x.messages has.0 s (subst (λ (y : Read). At y.messages has.0 s) (sym same) has.1)) in
    let is : number ≡ number + 0 = omega arith in
    subst (λ (n : ℕ). Has (sents_from number (x ∷ rs)) (sent n s)) is (has_kept (map (sent number) x.messages) (sents_from (suc number) rs) (sent number s) here)
lists number (x ∷ rs) (suc place) r s at has =
    let is : suc number + place ≡ number + suc place = omega arith in
    subst (λ (n : ℕ). Has (sents_from number (x ∷ rs)) (sent n s)) is (has_second (map (sent number) x.messages) (sents_from (suc number) rs) (sent (suc number + place) s) (lists (suc number) rs place r s at has))

listed_from : (reads : List Read) → AreScanned reads → (k : ℕ) (m : Sent) → At (sents_from 0 reads) k m → IsFrom (read_tops reads) m
listed_from reads scanned k m at =
    let is = listed 0 reads k m at in
    let number : is.place ≡ m.input = omega (arith, is.input) in
    message_from reads m.input is.read m.seen (subst (λ (n : ℕ). At reads n is.read) number is.at) (scanned is.place is.read is.at).1 is.has

-- they can be put in order
pub messages_there : (reads : List Read) → AreScanned reads → (messages : List Sent) × AreInTurn (read_tops reads) messages
messages_there reads scanned =
    let all = sents_from 0 reads in
    let (messages, is) = in_order MergesBefore (IsFrom (read_tops reads)) merges_next (merges_either reads scanned) all (listed_from reads scanned) in
    let are = is.are in
    let kept = is.all in (
      messages,
      record {
        rise = is.rise;
        are = λ m has. let old = are m has in listed_from reads scanned old.0 m old.1;
        all = λ m from.
            let r = from_read reads m scanned from in
            let same : 0 + m.input ≡ m.input = omega arith in
            kept m (subst (λ (n : ℕ). Has all (sent n m.seen)) same (lists 0 reads m.input r.read m.seen r.at r.has));
      },
    )

-- ---- extras

pub extras_are : (reads : List Read) (inputs : List Input) → HoldInputs reads inputs → extras_of inputs ≡ flat_map (filter is_extra) (read_tops reads)
extras_are [] [] hold = refl
extras_are [] (i ∷ is) hold = absurd hold
extras_are (r ∷ rs) [] hold = absurd hold
extras_are (r ∷ rs) (i ∷ is) hold =
    let first = hold.0 in
    ap (λ (l : List Top). l ++ extras_of is) first.extras_are ∙ ap (λ (l : List Top). filter is_extra r.tops ++ l) (extras_are rs is hold.1)
