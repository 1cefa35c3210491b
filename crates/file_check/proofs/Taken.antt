-- What is kept of the records that were given, with one more.
use Rattle.std.proofs.Common.{◌≡◌, ℕ, List, [], ◌∷◌, ◌++◌, length, Result, Ok, Err, Option, Some, None, sym, ap, subst, inl, inr, ◌∙◌, arith}
use Rattle.std.proofs.lemmas.List.{length-append}
use Rattle.mcap_wire.specs.declared.faults.Memory.{Memory}
use Rattle.mcap_model.specs.Tops.{Top, Placed, offset_behind}
use Rattle.mcap_model.specs.WalkedRecords.{walked}
use Rattle.index_check.proofs.Spotted.{spots_below}
use Rattle.file_check.specs.declared.gathering.Gathering.{Gathering}
use Rattle.file_check.specs.declared.top_records.TopRecords.{TopRecords}
use Rattle.file_check.specs.Gathering.{GatheredOf, GatheredTo, StandBefore, RecordGathered}
use Rattle.file_check.specs.Givens.{flat_given, GivenTo}
use Rattle.file_check.specs.IndexedRecords.{IndexedOf}
use Rattle.file_check.specs.CutFiles.{IndexFails}
use Rattle.file_check.specs.RecordCounts.{CountsOf}
use Rattle.file_check.specs.TopRecords.{TopsOf, TopTaken}
use Rattle.file_check.proofs.Given.{IsNext, given_more, given_whole, flat_walked}

module _ (given : List Placed) (done : List Top) (last : ℕ) (tops : List Top) (p : Placed) (ahead : List Placed) (to : GivenTo given done last) (same : walked tops ≡ (given ++ p ∷ []) ++ ahead) where
  pub still_inside : p.place.top ≡ last → GivenTo (given ++ p ∷ []) done last
  still_inside there = elim (given_more given done last tops p ahead to same) [
    | inl inside ↦ inside.to
    | inr next ↦ let past = next.past in absurd (omega (arith, past, there))
  ]

  pub is_next : (p.place.top ≡ last → ⊥) → IsNext given done last p tops
  is_next other = elim (given_more given done last tops p ahead to same) [
    | inl inside ↦ absurd (other inside.there)
    | inr next ↦ next
  ]

-- the next record of the top level was taken
pub gathered_next : (given : List Placed) (done : List Top) (last : ℕ) (tops : List Top) (p : Placed) (new : Gathering) (result : Result (Option ℕ) Memory) → IsNext given done last p tops → CountsOf (flat_given (given ++ p ∷ [])) new.counts
    → new.at ≡ p.place.top → TopTaken done p.top new.tops result → RecordGathered (given ++ p ∷ []) tops new result
gathered_next given done last tops p new (Ok None) next counts at taken = record {
  tops = done ++ p.top ∷ [];
  last = subst (λ (n : ℕ). GivenTo (given ++ p ∷ []) (done ++ p.top ∷ []) n) (sym at) next.to;
  counts = counts;
  tops_are = taken;
}
gathered_next given done last tops p new (Ok (Some offset)) next counts at taken = subst (λ (l : List Top). IndexFails l offset) (sym next.split) (taken next.more)
gathered_next given done last tops p new (Err memory) next counts at taken = tt

-- those that an index can repeat stand in front of the next record
pub stand_before : (done : List Top) (kept : TopRecords) (offset : ℕ) → IndexedOf done kept.indexed → offset ≡ offset_behind done → StandBefore kept offset
stand_before done kept offset indexed there = record {
  chunks = (let of = indexed.chunks in spots_below (λ t. t.op ≡ 6) done offset kept.indexed.chunks.spots of.spots there);
  attachments = (let of = indexed.attachments in spots_below (λ t. t.op ≡ 9) done offset kept.indexed.attachments.spots of.spots there);
  metadata = (let of = indexed.metadata in spots_below (λ t. t.op ≡ 12) done offset kept.indexed.metadata.spots of.spots there);
}

-- where all records were given, this is kept of all
pub gathered_all : (given : List Placed) (g : Gathering) (tops : List Top) → GatheredTo given g → given ≡ walked tops → GatheredOf tops g
gathered_all given g tops was same = record {
  counts = subst (λ (l : List Top). CountsOf l g.counts) (ap flat_given same ∙ flat_walked 8 tops) was.counts;
  tops_are = subst (λ (l : List Top). TopsOf l g.tops) (sym (given_whole given was.tops g.at tops was.last same)) was.tops_are;
}

-- some record was read
pub some_read : (given : List Placed) (p : Placed) (ahead : List Placed) (tops : List Top) → walked tops ≡ (given ++ p ∷ []) ++ ahead → tops ≡ [] → ⊥
some_read given p ahead tops same none = omega (arith, ap length (sym (ap walked none) ∙ same), length-append (given ++ p ∷ []) ahead, length-append given (p ∷ []))
