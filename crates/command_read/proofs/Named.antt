-- The compressions that Chunk Indexes name, as the keys of a set.
use Rattle.std.proofs.Common.{◌≡◌, ◌⊎◌, ℕ, zero, suc, ◌<◌, List, [], ◌∷◌, ◌++◌, length, get_or, map, refl, sym, ap, subst, inl, inr, ◌∙◌, append_assoc}
use Rattle.std.proofs.lemmas.List.{append-nil}
use denote.Ref.{Bor}
use Rattle.std.specs.Cmp.Lexicographic.{slice_cmp}
use Rattle.std.specs.Ordering.{nat_cmp, is_eq, match_ordering}
use Rattle.std.specs.declared.cmp.Ordering.{Ordering}
use Rattle.std.specs.declared.cmp.Ordering.TheVariants.{Less, Equal, Greater}
use Rattle.std.specs.List.Sorted.{IsStrictlySortedBy}
use Rattle.std.specs.BTreeSet.{insert_key}
use Rattle.std.proofs.lemmas.Map.Keys.{Less-from_sorted}
use Rattle.std.proofs.lemmas.Map.Text.{is_eq-slice_cmp}
use Rattle.std.proofs.lemmas.Slice.Eq.{bytes_eq-Decides}
use Rattle.mcap_wire.proofs.Contents.{shows_decided}
use Rattle.rec_index.specs.Records.{chunk_index_kinds, chunk_index_values}
use Rattle.mcap_model.specs.Places.{At, Has}
use Rattle.mcap_model.specs.Tops.{Top}
use Rattle.mcap_model.specs.Fields.{ChunkIndexFields, IsChunkIndex}
use Rattle.mcap_model.proofs.Places.{at_none, at_within, at_one, at_read, at_kept, at_last, at_more}
use Rattle.mcap_model.proofs.Lists.{pairs_from}
use Rattle.mcap_model.proofs.Flat.{at_mapped}
use Rattle.mcap_model.proofs.NamedTopics.{unmapped}
use Rattle.command_read.specs.Told.{IsCompressionNamed, AreNames}

abbrev pub Key : Type 0
Key = Bor (List ℕ)

abbrev pub name_of : Key → List ℕ
name_of k = k.now

abbrev pub key_cmp : Key → Key → Ordering
key_cmp a b = slice_cmp nat_cmp a.now b.now

-- a Chunk Index names one compression
index_once : (t : Top) (f g : ChunkIndexFields) → IsChunkIndex t f → IsChunkIndex t g → f.compression ≡ g.compression
index_once t f g one other =
    let same = shows_decided chunk_index_kinds t.content (chunk_index_values f) (chunk_index_values g) one.layout other.layout in
    cc same

texts_tie : (a b : List ℕ) → slice_cmp nat_cmp a b ≡ Equal → a ≡ b
texts_tie a b tie = (bytes_eq-Decides a b).0 (sym (is_eq-slice_cmp a b) ∙ ap is_eq tie)

-- ---- a key more

inserted_kept : (ks : List Key) (k x : Key) → Has ks x → Has (insert_key key_cmp ks k) x
inserted_kept [] k x (n, at) = absurd (at_none n x at)
inserted_kept (y ∷ ys) k x (n, at) = by (key_cmp k y) n at (λ m there. inserted_kept ys k x (m, there))
  where
    later : (m : ℕ) → At (y ∷ ys) m x → ((j : ℕ) → At ys j x → Has (insert_key key_cmp ys k) x) → Has (y ∷ insert_key key_cmp ys k) x
    later zero there rest = (0, there)
    later (suc m) there rest = let more = rest m there in (suc more.0, more.1)

    by : (o : Ordering) (m : ℕ) → At (y ∷ ys) m x → ((j : ℕ) → At ys j x → Has (insert_key key_cmp ys k) x) → Has (match_ordering o (k ∷ y ∷ ys) (y ∷ ys) (y ∷ insert_key key_cmp ys k)) x
    by Less m there rest = (suc m, there)
    by Equal m there rest = (m, there)
    by Greater m there rest = later m there rest

inserted_there : (ks : List Key) (k : Key) → (x : Key) × Has (insert_key key_cmp ks k) x × (x.now ≡ k.now)
inserted_there [] k = (k, (0, refl), refl)
inserted_there (y ∷ ys) k = by (key_cmp k y) refl (inserted_there ys k)
  where
    by : (o : Ordering) → key_cmp k y ≡ o → (x : Key) × Has (insert_key key_cmp ys k) x × (x.now ≡ k.now) → (x : Key) × Has (match_ordering o (k ∷ y ∷ ys) (y ∷ ys) (y ∷ insert_key key_cmp ys k)) x × (x.now ≡ k.now)
    by Less is rest = (k, (0, refl), refl)
    by Equal is rest = (y, (0, refl), sym (texts_tie k.now y.now is))
    by Greater is rest = let (x, (n, at), same) = rest in (x, (suc n, at), same)

inserted_back : (ks : List Key) (k : Key) (n : ℕ) (x : Key) → At (insert_key key_cmp ks k) n x → Has ks x ⊎ (x ≡ k)
inserted_back [] k zero x at = inr (sym (at_one (k ∷ []) 0 k x refl at))
inserted_back [] k (suc n) x at = absurd (at_none n x at)
inserted_back (y ∷ ys) k n x at = by (key_cmp k y) n at (λ m there. inserted_back ys k m x there)
  where
    older : Has ys x ⊎ (x ≡ k) → Has (y ∷ ys) x ⊎ (x ≡ k)
    older (inl (m, there)) = inl (suc m, there)
    older (inr same) = inr same

    by : (o : Ordering) (m : ℕ) → At (match_ordering o (k ∷ y ∷ ys) (y ∷ ys) (y ∷ insert_key key_cmp ys k)) m x → ((j : ℕ) → At (insert_key key_cmp ys k) j x → Has ys x ⊎ (x ≡ k)) → Has (y ∷ ys) x ⊎ (x ≡ k)
    by Less zero there rest = inr (sym (at_one (k ∷ y ∷ ys) 0 k x refl there))
    by Less (suc m) there rest = inl (m, there)
    by Equal m there rest = inl (m, there)
    by Greater zero there rest = inl (0, there)
    by Greater (suc m) there rest = older (rest m there)

-- ---- the names

keys_rise : (ks : List Key) → IsStrictlySortedBy key_cmp ks → (j k : ℕ) (a b : List ℕ) → j < k → At (map name_of ks) j a → At (map name_of ks) k b → slice_cmp nat_cmp a b ≡ Less
keys_rise ks sorted j k a b less at_j at_k =
    let (x, in_x, one) = unmapped name_of ks j a at_j in
    let (y, in_y, two) = unmapped name_of ks k b at_k in
    let within = at_within ks k y in_y in
    let below = Less-from_sorted key_cmp ks j k x sorted less within in
    let same_x : get_or ks j x ≡ x = at_one ks j (get_or ks j x) x (at_read ks j x (at_within ks j x in_x)) in_x in
    let same_y : get_or ks k x ≡ y = at_one ks k (get_or ks k x) y (at_read ks k x within) in_y in
    ap (λ (l : List ℕ). slice_cmp nat_cmp l b) (sym one ∙ ap name_of (sym same_x))
    ∙ ap (λ (l : List ℕ). slice_cmp nat_cmp (get_or ks j x).now l) (sym two ∙ ap name_of (sym same_y))
    ∙ below

named_wider : (indexes : List Top) (t : Top) (name : List ℕ) → IsCompressionNamed indexes name → IsCompressionNamed (indexes ++ t ∷ []) name
named_wider indexes t name is = record { place = is.place; top = is.top; shown = is.shown; at = at_kept indexes (t ∷ []) is.place is.top is.at; is = is.is; same = is.same }

-- one Chunk Index more
pub names_more : (indexes : List Top) (t : Top) (f : ChunkIndexFields) (ks : List Key) (k : Key) → IsChunkIndex t f → f.compression ≡ k.now → IsStrictlySortedBy key_cmp (insert_key key_cmp ks k)
    → AreNames indexes (map name_of ks) → AreNames (indexes ++ t ∷ []) (map name_of (insert_key key_cmp ks k))
names_more indexes t f ks k shows named sorted was = record {
  rises = pairs_from (λ a b. slice_cmp nat_cmp a b ≡ Less) (map name_of (insert_key key_cmp ks k)) (keys_rise (insert_key key_cmp ks k) sorted);
  are = λ n name at.
      let (x, there, same) = unmapped name_of (insert_key key_cmp ks k) n name at in
      subst (IsCompressionNamed (indexes ++ t ∷ [])) same (elim (inserted_back ks k n x there) [
        | inl (m, old) ↦ named_wider indexes t x.now (was.are m x.now (at_mapped name_of ks m x old))
        | inr last ↦ record { place = length indexes; top = t; shown = f; at = at_last indexes t []; is = shows; same = named ∙ ap name_of (sym last) }
      ]);
  all = λ name is. elim (at_more indexes t is.place is.top is.at) [
    | inl old ↦ older name (was.all name (record { place = is.place; top = is.top; shown = is.shown; at = old; is = is.is; same = is.same }))
    | inr last ↦
        let (x, (n, there), same) = inserted_there ks k in
        let one : f.compression ≡ is.shown.compression = index_once t f is.shown shows (subst (λ (u : Top). IsChunkIndex u is.shown) last.1 is.is) in
        let name_is : x.now ≡ name = same ∙ sym named ∙ one ∙ is.same in
        (n, subst (At (map name_of (insert_key key_cmp ks k)) n) name_is (at_mapped name_of (insert_key key_cmp ks k) n x there))
  ];
}
  where
    older : (name : List ℕ) → Has (map name_of ks) name → Has (map name_of (insert_key key_cmp ks k)) name
    older name (n, at) =
        let (x, there, same) = unmapped name_of ks n name at in
        let (m, kept) = inserted_kept ks k x (n, there) in
        (m, subst (At (map name_of (insert_key key_cmp ks k)) m) same (at_mapped name_of (insert_key key_cmp ks k) m x kept))

-- ---- going over the names

-- the name at hand comes behind those that are done
pub next_name : (all done : List (List ℕ)) (left rest : List Key) (k : Key) → all ≡ done ++ map name_of left → left ≡ k ∷ rest → all ≡ (done ++ k.now ∷ []) ++ map name_of rest
next_name all done left rest k is more =
    is ∙ ap (λ (l : List Key). done ++ map name_of l) more ∙ sym (append_assoc done (k.now ∷ []) (map name_of rest))

pub last_name : (all done : List (List ℕ)) (left : List Key) → all ≡ done ++ map name_of left → left ≡ [] → all ≡ done
last_name all done left is none = is ∙ ap (λ (l : List Key). done ++ map name_of l) none ∙ append-nil done
