-- What stores are behind a merge: they were read whole, and their pieces were read again.
use Rattle.std.proofs.Common.{◌≡◌, ◌⊎◌, ℕ, zero, suc, ◌≤◌, Bool, true, false, List, [], ◌∷◌, length, drop, refl, sym, ap, subst, ◌∙◌, inl, inr, Option, Some, None, arith}
use Rattle.std.specs.Prelude.{◌==◌, if◌then◌else◌, Result, Ok, Err}
use Rattle.std.specs.List.{AllZip}
use Rattle.std.proofs.lemmas.Bool.{eqb-true, eq-eqb, both_ways}
use Rattle.std.proofs.lemmas.List.Sums.{sum_by-take-drop}
use Rattle.mcap_io.specs.Outside.{RisesOnce}
use Rattle.mcap_io.specs.Stores.{StoreState}
use Rattle.mcap_io.specs.StoreAnswers.{StoreStays}
use Rattle.mcap_model.specs.declared.refusals.ReadingRefused.TheVariants as readings
use Rattle.mcap_model.specs.Places.{At}
use Rattle.mcap_model.proofs.Places.{at_none, at_one}
use Rattle.mcap_model.proofs.Lists.{each_cons}
use Rattle.mcap_model.proofs.NamedTopics.{zip_front, zip_back}
use Rattle.merge_walk.specs.declared.pieces.Piece.{Piece}
use Rattle.merge_walk.specs.declared.walk.Walk.{Walk}
use Rattle.merge_walk.specs.Pieces.{InputBytes, pieces_size}
use Rattle.merge_walk.specs.Stores.{files_of, StoresStay, AskedWithin, unasked, none_left}
use Rattle.merge_walk.specs.Stores as walks
use Rattle.mcap_merge.specs.Reading.{FaultsStand, InputRose}
use Rattle.mcap_merge.specs.ReadingSteps.{StoreKeeps, AsksWithinLength}
use Rattle.mcap_merge.specs.declared.answers.MergeRefused.{MergeRefused}
use Rattle.mcap_merge.specs.declared.answers.MergeRefused.TheVariants as merges
use Rattle.mcap_merge.specs.Turns.{PutCounts}
use Rattle.mcap_merge.specs.Filed.{AllTell, AsksTwice}
use Rattle.mcap_merge.proofs.Profiles.{zip_length}

-- ---- whether all tell

abbrev Tells : StoreState → Type 0
Tells s = (bytes : List ℕ) × (s.bytes ≡ Some bytes)

none_some : (bytes : List ℕ) → None ≡ Some bytes → ⊥
none_some bytes e = cc

pub all_tell : (stores : List StoreState) → AllTell stores ⊎ (AllTell stores → ⊥)
all_tell [] = inl (λ n s at. absurd (at_none n s at))
all_tell (x ∷ xs) = by x.bytes refl (all_tell xs)
  where
    by : (told : Option (List ℕ)) → x.bytes ≡ told → AllTell xs ⊎ (AllTell xs → ⊥) → AllTell (x ∷ xs) ⊎ (AllTell (x ∷ xs) → ⊥)
    by None is rest = inr (λ all. let (bytes, told) = all zero x refl in none_some bytes (sym is ∙ told))
    by (Some bytes) is (inl rest) = inl (each_cons Tells x xs (bytes, is) rest)
    by (Some bytes) is (inr some) = inr (λ all. some (λ n s at. all (suc n) s at))

-- they tell the same
pub files_kept : (olds news : List StoreState) → AllZip StoreKeeps olds news → files_of news ≡ files_of olds
files_kept [] [] keeps = refl
files_kept [] (y ∷ ys) keeps = absurd keeps
files_kept (x ∷ xs) [] keeps = absurd keeps
files_kept (x ∷ xs) (y ∷ ys) keeps =
    ap (λ (b : Option (List ℕ)). b ∷ files_of ys) keeps.0.bytes ∙ ap (λ (l : InputBytes). x.bytes ∷ l) (files_kept xs ys keeps.1)

-- ---- one behind the other

zip_at : {A B : Type 0} (R : A → B → Type 0) (xs : List A) (ys : List B) → length xs ≡ length ys → ((k : ℕ) (x : A) (y : B) → At xs k x → At ys k y → R x y) → AllZip R xs ys
zip_at R [] [] size each = tt
zip_at R [] (y ∷ ys) size each = absurd (omega (arith, size))
zip_at R (x ∷ xs) [] size each = absurd (omega (arith, size))
zip_at R (x ∷ xs) (y ∷ ys) size each = (each zero x y refl refl, zip_at R xs ys (omega (arith, size)) (λ k a b at_a at_b. each (suc k) a b at_a at_b))

left_fewer : (k n : ℕ) (pieces : List Piece) → pieces_size k (drop n pieces) ≤ pieces_size k pieces
left_fewer k n pieces = omega (arith, sum_by-take-drop (λ (p : Piece). if p.input == k then p.span.length else 0) pieces n)

module _ (olds mids news : List StoreState) (stay : StoresStay mids news) where
  same_length : (R : StoreState → StoreState → Type 0) → AllZip R olds mids → length olds ≡ length news
  same_length R zip = zip_length R olds mids zip ∙ zip_length StoreStays mids news stay

  pub counts_behind : AllZip FaultsStand olds mids → AllZip FaultsStand mids news → AllZip FaultsStand olds news
  counts_behind one other = zip_at FaultsStand olds news (same_length FaultsStand one) (λ k x z at_x at_z.
      let (y, at_y, first) = zip_front FaultsStand olds mids k x one at_x in
      let (w, at_w, last) = zip_front FaultsStand mids news k y other at_y in
      let same : w ≡ z = at_one news k w z at_w at_z in
      subst (FaultsStand x) same (last ∙ first))

  pub rose_behind : (k faults : ℕ) → AllZip FaultsStand olds mids → walks.OneRose mids news k faults → InputRose olds news k faults
  rose_behind k faults one rose =
      let (s, at_s, same) = zip_back FaultsStand olds mids k rose.old one rose.old_at in
      let others = rose.others in (
        s,
        rose.new,
        at_s,
        rose.new_at,
        subst (λ (n : ℕ). RisesOnce n rose.new.faults) same rose.rises,
        rose.faults_is,
        λ n was is other at_was at_is.
            let (mid, at_mid, stands) = zip_front FaultsStand olds mids n was one at_was in
            others n mid is other at_mid at_is ∙ stands,
      )

  pub keeps_behind : AllZip StoreKeeps olds mids → ((k : ℕ) (x y : StoreState) → At mids k x → At news k y → x.faults ≤ y.faults) → AllZip StoreKeeps olds news
  keeps_behind one unfallen = zip_at StoreKeeps olds news (same_length StoreKeeps one) (λ k x z at_x at_z.
      let (y, at_y, first) = zip_front StoreKeeps olds mids k x one at_x in
      let (w, at_w, last) = zip_front StoreStays mids news k y stay at_y in
      let same : w ≡ z = at_one news k w z at_w at_z in
      let bytes = last.bytes in
      let known = last.known in
      let faults = unfallen k y w at_y at_w in
      subst (StoreKeeps x) same (record { bytes = bytes ∙ first.bytes; known = omega (arith, known, first.known); faults = omega (arith, faults, first.faults) }))

  pub asked_behind : (w : Walk) → AllZip AsksWithinLength olds mids → AskedWithin mids news (unasked w) none_left → ((k : ℕ) (s : StoreState) → At mids k s → pieces_size k w.pieces.items ≤ s.known) → AllZip AsksTwice olds news
  asked_behind w one within sums = zip_at AsksTwice olds news (same_length AsksWithinLength one) (λ k x z at_x at_z.
      let (y, at_y, first) = zip_front AsksWithinLength olds mids k x one at_x in
      let (u, at_u, last) = zip_front StoreStays mids news k y stay at_y in
      let same : u ≡ z = at_one news k u z at_u at_z in
      let known = last.known in
      let asked = within k y u at_y at_u in
      let left = left_fewer k w.next w.pieces.items in
      let sum = sums k y at_y in
      subst (AsksTwice x) same (record { twice = omega (arith, first.once, known, asked, left, sum) }))

-- ---- counts haven't fallen

pub stood : (mids news : List StoreState) → AllZip FaultsStand mids news → (k : ℕ) (x y : StoreState) → At mids k x → At news k y → x.faults ≤ y.faults
stood mids news stand k x y at_x at_y =
    let (z, at_z, same) = zip_front FaultsStand mids news k x stand at_x in
    let equal : z.faults ≡ y.faults = ap (λ (s : StoreState). s.faults) (at_one news k z y at_z at_y) in
    omega (arith, same, equal)

pub risen : (mids news : List StoreState) (place faults : ℕ) → walks.OneRose mids news place faults → (k : ℕ) (x y : StoreState) → At mids k x → At news k y → x.faults ≤ y.faults
risen mids news place faults rose k x y at_x at_y = by (k == place) refl
  where
    by : (b : Bool) → (k == place) ≡ b → x.faults ≤ y.faults
    by true e =
        let same : k ≡ place = eqb-true k place e in
        let first : x.faults ≡ rose.old.faults = ap (λ (s : StoreState). s.faults) (at_one mids k x rose.old at_x (subst (λ (n : ℕ). At mids n rose.old) (sym same) rose.old_at)) in
        let last : y.faults ≡ rose.new.faults = ap (λ (s : StoreState). s.faults) (at_one news k y rose.new at_y (subst (λ (n : ℕ). At news n rose.new) (sym same) rose.new_at)) in
        let later = rose.rises.later in
        omega (arith, first, last, later)
    by false e =
        let others = rose.others in
        let still : y.faults ≡ x.faults = others k x y (λ same. absurd (both_ways (k == place) e (eq-eqb k place same))) at_x at_y in
        omega (arith, still)

pub unfallen : {X : Type 0} (mids news : List StoreState) (before now : ℕ) (result : Result X MergeRefused) → PutCounts mids news before now result → (k : ℕ) (x y : StoreState) → At mids k x → At news k y → x.faults ≤ y.faults
unfallen mids news before now (Ok it) counts = stood mids news counts.0
unfallen mids news before now (Err (merges.Halted input (readings.Fault faults))) counts = risen mids news input faults counts.0
unfallen mids news before now (Err (merges.Halted input (readings.Grammar offset rule))) counts = absurd counts.0
unfallen mids news before now (Err (merges.Halted input (readings.Compressed offset name))) counts = absurd counts.0
unfallen mids news before now (Err (merges.Halted input (readings.Limit offset))) counts = absurd counts.0
unfallen mids news before now (Err (merges.Halted input readings.Memory)) counts = absurd counts.0
unfallen mids news before now (Err (merges.Changed input offset)) counts = stood mids news counts.0
unfallen mids news before now (Err merges.TooManySchemas) counts = absurd counts
unfallen mids news before now (Err merges.TooManyChannels) counts = absurd counts
unfallen mids news before now (Err (merges.Stopped stop)) counts = stood mids news counts.0

-- ---- nothing was read

pub asked_still : (stores : List StoreState) (w : Walk) → AskedWithin stores stores (unasked w) none_left
asked_still stores w k old new at_old at_new =
    let same : old ≡ new = at_one stores k old new at_old at_new in
    let asked : old.asked ≡ new.asked = ap (λ (s : StoreState). s.asked) same in
    omega (arith, asked)

pub asks_twice : (olds news : List StoreState) → AllZip AsksWithinLength olds news → AllZip AsksTwice olds news
asks_twice [] [] one = tt
asks_twice [] (y ∷ ys) one = absurd one
asks_twice (x ∷ xs) [] one = absurd one
asks_twice (x ∷ xs) (y ∷ ys) one = let once = one.0.once in (record { twice = omega (arith, once) }, asks_twice xs ys one.1)
