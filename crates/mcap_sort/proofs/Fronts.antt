-- What reading the store whole comes to.
use Rattle.std.proofs.Common.{◌≡◌, ◌∙◌, ℕ, List, length, Option, Some, drop, sym, ap, subst, arith}
use Rattle.std.specs.Prelude.{Result, Ok, Err}
use Rattle.std.proofs.lemmas.List.{take_all}
use Rattle.mcap_io.specs.Stores.{StoreState}
use Rattle.mcap_io.specs.StoreAnswers.{StoreStays, Measures}
use Rattle.mcap_io.specs.StoreSources.{front_left}
use Rattle.mcap_scan.specs.Sources.{MemoryLeaves}
use Rattle.mcap_model.specs.declared.refusals.ReadingRefused.{ReadingRefused}
use Rattle.mcap_model.specs.declared.refusals.ReadingRefused.TheVariants as refusals
use Rattle.mcap_model.specs.declared.rules.Rule.{Rule}
use Rattle.mcap_merge.specs.declared.input.Input.{Input}
use Rattle.mcap_merge.specs.ReadingSteps.{FrontReads, HasLength, IsCounted, FindsOutside, StoreKeeps, StoreRefused, ReadsWhole}
use Rattle.mcap_merge.proofs.Stores.{told_left, no_fault, front_refused, outside_refused, measured, measured_keeps}
use Rattle.mcap_sort.specs.declared.gathering.Gathered.{Gathered}
use Rattle.mcap_sort.specs.Gathering.{GathersFront, GathersWhole}
use Rattle.mcap_sort.specs.Sorting.{HaltsReading}

pub gathered_whole : (old new : StoreState) (len : ℕ) (g : Gathered) → HasLength old len → GathersFront old len new (Ok g) → GathersWhole old new (Ok g)
gathered_whole old new len g whole front =
    let (r, end, halts, holds) = front.reads in
    let all = halts.halts in
    (r, holds, λ bytes is. (end, all bytes (told_left old len bytes whole is)), no_fault old new front.next len front.now.faults front.was halts.still)

-- where it wasn't read whole for another reason than memory
refused_so : (old new : StoreState) (len : ℕ) (why result : ReadingRefused) → HasLength old len → GathersFront old len new (Err why) → IsCounted new.faults why result → StoreRefused old new result
refused_so old new len why result whole front is =
    let reads : FrontReads old len new (Err why) = record { next = front.next; now = front.now; was = front.was; reads = front.reads } in
    front_refused old new len why result whole reads is

pub gathered_refused : (old new : StoreState) (len : ℕ) (why result : ReadingRefused) → HasLength old len → GathersFront old len new (Err why) → IsCounted new.faults why result → HaltsReading old new result
gathered_refused old new len (refusals.Fault faults) result whole front is =
    subst (HaltsReading old new) (sym is) (subst (StoreRefused old new) is (refused_so old new len (refusals.Fault faults) result whole front is))
gathered_refused old new len (refusals.Grammar offset rule) result whole front is =
    subst (HaltsReading old new) (sym is) (subst (StoreRefused old new) is (refused_so old new len (refusals.Grammar offset rule) result whole front is))
gathered_refused old new len (refusals.Compressed offset name) result whole front is =
    subst (HaltsReading old new) (sym is) (subst (StoreRefused old new) is (refused_so old new len (refusals.Compressed offset name) result whole front is))
gathered_refused old new len (refusals.Limit offset) result whole front is =
    subst (HaltsReading old new) (sym is) (subst (StoreRefused old new) is (refused_so old new len (refusals.Limit offset) result whole front is))
gathered_refused old new len refusals.Memory result whole front is =
    let (tops, stands) = front.reads in
    let was = front.was in
    let of = was.whole stands.still in
    subst (HaltsReading old new) (sym is) (record {
      still = of.0;
      tops = tops;
      good = stands.good;
      next = front.next;
      asked = of.1;
      leaves = λ bytes told.
          let long : len ≡ length bytes = whole bytes told in
          let left : front.now.left ≡ Some (drop front.next bytes) =
          front.left_is ∙ ap (λ (o : Option (List ℕ)). front_left o front.next len) told ∙ ap (λ (l : List ℕ). Some (drop front.next l)) (take_all len bytes (omega (arith, long))) in
          let leaves = stands.leaves in
          subst (MemoryLeaves bytes tops) left (leaves bytes (told_left old len bytes whole told));
    })

reads_of : (old new : StoreState) (g : Gathered) → GathersWhole old new (Ok g) → ReadsWhole old new (Ok g.input)
reads_of old new g (r, holds, is, still) = (r, holds.holds, is, still)

pub gathered_outside : (old new : StoreState) (len offset : ℕ) (rule : Rule) (g : Gathered) → HasLength old len → GathersWhole old new (Ok g) → FindsOutside g.input.spans.items len (Some offset) → HaltsReading old new (refusals.Grammar offset rule)
gathered_outside old new len offset rule g whole reads found = outside_refused old new len offset rule g.input whole (reads_of old new g reads) found

pub gathered_measured : (old mid new : StoreState) (len : ℕ) (result : Result Gathered ReadingRefused) → Measures old mid (Ok len) → GathersWhole mid new result → GathersWhole old new result
gathered_measured old mid new len (Ok g) measures (r, holds, is, still) = (r, holds, λ bytes told. is bytes (measures.bytes ∙ told), still ∙ measures.cause.still)
gathered_measured old mid new len (Err (refusals.Fault faults)) measures refused = measured old mid new len (Err (refusals.Fault faults)) measures refused
gathered_measured old mid new len (Err (refusals.Grammar offset rule)) measures refused = measured old mid new len (Err (refusals.Grammar offset rule)) measures refused
gathered_measured old mid new len (Err (refusals.Compressed offset name)) measures refused = measured old mid new len (Err (refusals.Compressed offset name)) measures refused
gathered_measured old mid new len (Err (refusals.Limit offset)) measures refused = measured old mid new len (Err (refusals.Limit offset)) measures refused
gathered_measured old mid new len (Err refusals.Memory) measures lacks = record {
  still = lacks.still ∙ measures.cause.still;
  tops = lacks.tops;
  good = lacks.good;
  next = lacks.next;
  asked = omega (arith, lacks.asked, measures.asked);
  leaves = λ bytes told. let leaves = lacks.leaves in leaves bytes (measures.bytes ∙ told);
}

refused_of : (old new : StoreState) (why : ReadingRefused) → HaltsReading old new why → StoreRefused old new why
refused_of old new (refusals.Fault faults) refused = refused
refused_of old new (refusals.Grammar offset rule) refused = refused
refused_of old new (refusals.Compressed offset name) refused = refused
refused_of old new (refusals.Limit offset) refused = refused
refused_of old new refusals.Memory lacks = lacks.still

pub gathered_keeps : (old mid new : StoreState) (len : ℕ) (result : Result Gathered ReadingRefused) → Measures old mid (Ok len) → GathersWhole mid new result → StoreStays mid new → StoreKeeps old new
gathered_keeps old mid new len (Ok g) measures whole stays = measured_keeps old mid new len (Ok g.input) measures (reads_of mid new g whole) stays
gathered_keeps old mid new len (Err why) measures refused stays = measured_keeps old mid new len (Err why) measures (refused_of mid new why refused) stays
