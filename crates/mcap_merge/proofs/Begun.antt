-- From what is begun to what is written.
use Rattle.std.proofs.Common.{◌≡◌, ℕ, zero, suc, ◌+◌, List, [], ◌∷◌, ◌++◌, length, take, drop, refl, sym, ap, subst, ◌∙◌, append-nil}
use Rattle.std.specs.Prelude.{min, ◌-◌, ◌^◌, Err}
use Rattle.std.specs.List.{AllZip}
use Rattle.mcap_io.specs.Stores.{StoreState}
use Rattle.rec_data.specs.declared.owned.Rec.{Rec}
use Rattle.mcap_model.specs.Tops.{Top}
use Rattle.merge_walk.specs.declared.pieces.Piece.{Piece}
use Rattle.merge_walk.specs.declared.walk.Walk.{Walk}
use Rattle.merge_walk.specs.Pieces.{InputBytes, pieces_size}
use Rattle.merge_walk.specs.Stores.{unasked}
use Rattle.merge_walk.specs.Walks.{pieces_in, peak_of, IsTextOf, WalkStands}
use Rattle.chunk_writer.specs.Stops.{StopCause}
use Rattle.mcap_merge.specs.declared.answers.Merged.{Merged}
use Rattle.mcap_merge.specs.declared.answers.MergeRefused.{MergeRefused}
use Rattle.mcap_merge.specs.declared.answers.MergeRefused.TheVariants as merges
use Rattle.mcap_merge.specs.declared.input.Input.{Input}
use Rattle.mcap_merge.specs.declared.joining.Joiner.{Joiner}
use Rattle.mcap_merge.specs.declared.starting.Begun.{Begun}
use Rattle.mcap_merge.specs.ReadInputs.{read_tops}
use Rattle.mcap_merge.specs.Uses.{history_of}
use Rattle.mcap_merge.specs.Joining.{JoinerStands}
use Rattle.mcap_merge.specs.Writing.{extras_of}
use Rattle.mcap_merge.specs.Turns.{IsUseOfTurn, sources, PutSoFar, PutAll, PutSome, PutCounts}
use Rattle.mcap_merge.specs.Putting.{IsBegun, MergeStart, WholeStands, PartStands}
use Rattle.mcap_merge.proofs.Counted.{counts}
use Rattle.mcap_merge.proofs.Profiles.{zip_length}

-- nothing was loaded
none_loaded : (files : InputBytes) (pieces : List Piece) (next : ℕ) → AllZip (IsTextOf files) (take next pieces) [] → drop next pieces ≡ pieces
none_loaded files [] zero zip = refl
none_loaded files [] (suc next) zip = refl
none_loaded files (p ∷ ps) zero zip = refl
none_loaded files (p ∷ ps) (suc next) zip = absurd zip

-- all bytes of the pieces may still be asked for
pub unasked_begun : (inputs : List Input) (b : Begun) → IsBegun inputs b → (k : ℕ) → unasked b.walk k ≡ pieces_size k (pieces_in b.walk)
unasked_begun inputs b begun k =
    let stands = begun.stands in
    let none = stands [] in
    ap (pieces_size k) (none_loaded [] b.walk.pieces.items b.walk.next none.taken)

module _ {P : Type 0} (adds : P → P → List Top → List Rec → Type 0) where
  -- nothing was put
  pub put_none : ((p : P) → adds p p [] []) → (files : InputBytes) (inputs : List Input) (w : Walk) (j : Joiner) (p : P) → WalkStands files w [] [] → ((all : List (List Top)) → JoinerStands all [] j) → PutSoFar adds (sources files inputs) w 0 j p p
  put_none adds_none files inputs w j p stands none = record {
    texts = [];
    given = [];
    stands = stands;
    size = refl;
    uses = λ reads hold suffice. ([], tt, (none (read_tops reads), adds_none p));
  }

  module _ (adds_on : (p q r : P) (extras others : List Top) (records behind : List Rec) → adds p q extras records → adds q r others behind → adds p r (extras ++ others) (records ++ behind)) where
    behind : (p q r : P) (extras : List Top) (records : List Rec) → adds p q extras [] → adds q r [] records → adds p r extras records
    behind p q r extras records one other = subst (λ (e : List Top). adds p r e records) (append-nil extras) (adds_on p q r extras [] [] records one other)

    -- the pen stopped at the extras
    pub extras_stop : (start : MergeStart) (old new : P) → WalkStands start.files start.walk [] [] → adds old new (extras_of start.inputs) [] → ((records : List Rec) → adds new new [] records) → PartStands adds start old new
    extras_stop start old new stands added stays = record {
      walk = start.walk;
      pieces = refl;
      texts = [];
      given = [];
      stands = stands;
      uses = λ reads hold suffice. ([], tt, λ more. behind old new new (extras_of start.inputs) more added (stays more));
    }

    -- or behind them
    pub part_stands : (start : MergeStart) (old mid new : P) → adds old mid (extras_of start.inputs) [] → PutSome adds start.files start.inputs start.walk mid new → PartStands adds start old new
    part_stands start old mid new added some = record {
      walk = some.walk;
      pieces = ap (λ v. v.items) some.pieces;
      texts = some.texts;
      given = some.given;
      stands = some.stands;
      uses = λ reads hold suffice.
          let uses = some.uses in
          let (us, zip, all) = uses reads hold suffice in
          (us, zip, λ more. behind old mid new (extras_of start.inputs) (history_of us ++ more) added (all more));
    }

    -- or not before the end
    pub whole_stands : (start : MergeStart) (w : Walk) (count declared : ℕ) (j : Joiner) (old mid all : P) (m : Merged) → adds old mid (extras_of start.inputs) [] → PutAll adds (sources start.files start.inputs) w count j mid all → pieces_in w ≡ pieces_in start.walk
        → declared ≡ length j.table.schemas + length j.table.channels → m.messages ≡ count → m.records ≡ min (m.messages + declared) (2 ^ 64 - 1) → m.peak ≡ peak_of w → WholeStands adds start old all m
    whole_stands start w count declared j old mid all m added whole same is messages records peak =
        let put = whole.put in
        record {
          walk = w;
          pieces = same;
          loaded = whole.loaded;
          texts = put.texts;
          given = put.given;
          stands = put.stands;
          all_given = whole.all;
          uses = λ reads hold suffice.
              let uses = put.uses in
              let (us, zip, (joined, added_all)) = uses reads hold suffice in
              let many : m.messages ≡ length us = messages ∙ sym put.size ∙ zip_length (IsUseOfTurn (read_tops reads) put.texts) put.given us zip in
              (us, zip, (behind old mid all (extras_of start.inputs) (history_of us) added added_all, counts j us m declared joined.ids_are is many records));
          peak = peak;
        }

-- the counts of turns that weren't all put, behind extras that were
pub counts_behind_extras : (X Y : Type 0) (olds news : List StoreState) (before mid now : ℕ) (why : MergeRefused) → mid ≡ before → PutCounts {X = X} olds news mid now (Err why) → PutCounts {X = Y} olds news before now (Err why)
counts_behind_extras X Y olds news before mid now (merges.Halted input why) same it = (it.0, it.1 ∙ same)
counts_behind_extras X Y olds news before mid now (merges.Changed input offset) same it = (it.0, it.1 ∙ same)
counts_behind_extras X Y olds news before mid now merges.TooManySchemas same it = it
counts_behind_extras X Y olds news before mid now merges.TooManyChannels same it = it
counts_behind_extras X Y olds news before mid now (merges.Stopped stop) same it = (it.0, subst (λ (n : ℕ). StopCause n now stop) same it.1)
