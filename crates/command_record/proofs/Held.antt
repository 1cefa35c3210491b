-- What the output of a recording holds.
use Rattle.std.proofs.Common.{◌≡◌, ◌⊎◌, ℕ, ◌≤◌, List, [], ◌∷◌, ◌++◌, length, map, take, Option, Some, Result, Ok, Err, refl, sym, ap, subst, inl, inr, ◌∙◌, arith, length-append}
use Rattle.std.specs.Prelude.{Bool, true}
use Rattle.std.proofs.lemmas.List.{append-nil}
use Rattle.std.proofs.lemmas.Bool.{both_ways}
use Rattle.mcap_io.specs.Outside.{Names}
use Rattle.mcap_io.specs.OutsideCalls.{went_well, PlacedUnder}
use Rattle.mcap_io.specs.declared.outside.Failed.{Failed}
use Rattle.rec_data.specs.declared.owned.Rec.{Rec}
use Rattle.mcap_model.specs.declared.ends.End.{End}
use Rattle.mcap_model.specs.declared.ends.End.TheVariants as ends
use Rattle.mcap_model.specs.declared.options.FileOptions.{FileOptions}
use Rattle.mcap_model.specs.Blocks.{pieces_of, piece_bytes}
use Rattle.mcap_model.specs.File.{front, file_of, IsPrefix}
use Rattle.mcap_model.specs.Pieces.{joined, back_of, file_pieces, pieces_before}
use Rattle.mcap_model.proofs.Pieces.{pieces_make_files, stops_leave_prefixes}
use Rattle.mcap_model.proofs.Prefixes.{begins_with}
use Rattle.chunk_writer.specs.Stops.{numbers, Ends}
use Rattle.recorder.specs.Recorded.{answer_of, TookFront}
use Rattle.recorder.specs.declared.report.WriterReport.{WriterReport}
use Rattle.command_record.specs.Record.{StandsBy, OutputHolds}

-- the store took what the writer's report says of the file of the history
pub record Holds (options : FileOptions) (history : List Rec) (w : WriterReport) (held : Option (List ℕ)) : Type 0 where
  pub text : List ℕ
  pub is : held ≡ Some text
  pub stands : StandsBy options history w.bytes w.end text
  pub begun : (history ≡ [] → ⊥) → (more : List ℕ) × (text ≡ front options.profile ++ more)

-- a text is as long as its front, or longer
long : (text front more : List ℕ) (n : ℕ) → text ≡ front ++ more → n ≡ length front → n ≤ length text
long text front more n split size = omega (arith, ap length split, length-append front more, size)

-- it begins with the front where it is no shorter
file_begins : (options : FileOptions) (history : List Rec) → file_of options [] history ≡ front options.profile ++ joined (map piece_bytes (pieces_of options.chunk options.span history) ++ back_of options [] history ∷ [])
file_begins options history = sym (pieces_make_files options [] history)

-- what stands is a first part of the file, of so many bytes at least
pub stands_first : (options : FileOptions) (history : List Rec) (bytes : ℕ) (end : End) (text : List ℕ) → StandsBy options history bytes end text → (bytes ≤ length text) × IsPrefix text (file_of options [] history)
stands_first options history bytes ends.Closed text (is, size) = (omega (arith, size), ([], append-nil text ∙ is))
stands_first options history bytes (ends.Stopped stop) text (place, stood) =
    let prefix = stops_leave_prefixes (file_pieces options [] history) place stop text bytes stood in (
      long text (pieces_before (file_pieces options [] history) place) (take stood.some stood.next) bytes stood.split stood.size,
      (prefix.0, prefix.1 ∙ pieces_make_files options [] history),
    )

some_held : (options : FileOptions) (before now : Option (List ℕ)) (history : List Rec) (w : WriterReport) (end : End) → w.end ≡ end → Ends options [] before now history (numbers w.blocks w.bytes) (answer_of end) → TookFront options history w.bytes → before ≡ Some [] → Holds options history w now
some_held options before now history w ends.Closed is all begun none = record {
  text = file_of options [] history;
  is = all.0 [] none;
  stands = subst (λ (e : End). StandsBy options history w.bytes e (file_of options [] history)) (sym is) (refl, sym all.2);
  begun = λ some. (_, file_begins options history);
}
some_held options before now history w (ends.Stopped stop) is stopped begun none =
    let (text, held, stood) = stopped.took [] none in
    let first = stands_first options history w.bytes (ends.Stopped stop) text (stopped.place, stood) in
    record {
      text = text;
      is = held;
      stands = subst (λ (e : End). StandsBy options history w.bytes e text) (sym is) (stopped.place, stood);
      begun = λ some. elim begun [
        | inl le ↦ begins_with text first.1.0 (front options.profile) _ (first.1.1 ∙ file_begins options history) (omega (arith, le, first.0))
        | inr none_begun ↦ absurd (some none_begun.1)
      ];
    }

pub holds : (options : FileOptions) (before now : Option (List ℕ)) (history : List Rec) (w : WriterReport) → Ends options [] before now history (numbers w.blocks w.bytes) (answer_of w.end) → TookFront options history w.bytes → before ≡ Some [] → Holds options history w now
holds options before now history w wrote begun none = some_held options before now history w w.end refl wrote begun none

abbrev some_text : List ℕ → Option (List ℕ)
some_text l = Some l

-- what a keeping left under the name is the store's text, or what the name held
pub placed_holds : (options : FileOptions) (all now : Names) (out : List ℕ) (history : List Rec) (w : WriterReport) (held : Option (List ℕ)) (result : Result Unit Failed) → (h : Holds options history w held) → PlacedUnder all now out h.text result
    → OutputHolds options history w (went_well result) (all out) (now out)
placed_holds options all now out history w held (Ok it) h is = record {
  part = inl (h.text, is, h.stands);
  begun = λ some well. let there = h.begun some in (there.0, is ∙ ap (λ (l : List ℕ). some_text l) there.1);
}
placed_holds options all now out history w held (Err why) h (inl is) = record {
  part = inl (h.text, is, h.stands);
  begun = λ some well. absurd cc;
}
placed_holds options all now out history w held (Err why) h (inr same) = record {
  part = inr (same, refl);
  begun = λ some well. absurd cc;
}

-- where the writer closed, and the output was kept, it is the file
pub output_whole : (options : FileOptions) (history : List Rec) (w : WriterReport) (well : Bool) (before now : Option (List ℕ)) → OutputHolds options history w well before now → w.end ≡ ends.Closed → well ≡ true → now ≡ Some (file_of options [] history)
output_whole options history w well before now it closed kept = elim it.part [
  | inl (text, is, stands) ↦ is ∙ ap (λ (l : List ℕ). some_text l) (subst (λ (e : End). StandsBy options history w.bytes e text) closed stands).0
  | inr (same, unwell) ↦ absurd (both_ways well unwell kept)
]

-- an empty object leaves nothing under the name, or what it held
pub placed_nothing : (all now : Names) (out : List ℕ) (result : Result Unit Failed) → PlacedUnder all now out [] result → (now out ≡ all out) ⊎ (now out ≡ Some [])
placed_nothing all now out (Ok it) is = inr is
placed_nothing all now out (Err why) (inl is) = inr is
placed_nothing all now out (Err why) (inr same) = inl same
