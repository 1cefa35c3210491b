-- The front and the end of a file, and its pieces without a chunk size.
use Rattle.std.proofs.Common.{◌≡◌, ℕ, ◌≤◌, List, [], ◌∷◌, ◌++◌, length, map, Option, None, refl, sym, ap, ◌∙◌, append_assoc, arith}
use Rattle.std.specs.Prelude.{fold, IsUtf8}
use Rattle.std.proofs.lemmas.List.{append-nil}
use Rattle.rec_data.specs.declared.owned.Rec.{Rec}
use Rattle.rec_data.specs.Records.{header_text, data_end_text}
use Rattle.mcap_model.specs.Tops.{Top}
use Rattle.mcap_model.specs.Fields.{IsHeader}
use Rattle.mcap_model.specs.Kept.{reading_limits, Fits}
use Rattle.mcap_model.specs.Blocks.{Piece, alone, Cuts, put_behind}
use Rattle.mcap_model.specs.File.{library}
use Rattle.mcap_model.proofs.Histories.{header_meets, within_there, flat_none}

abbrev pub header_top : List ℕ → Top
header_top profile = record { op = 1; content = header_text (record { profile = profile; library = library }) }

abbrev pub end_top : Top
end_top = record { op = 15; content = data_end_text 0 }

pub header_fits : (profile : List ℕ) → IsHeader (header_top profile) → length (header_text (record { profile = profile; library = library })) ≤ 268435456 → Fits reading_limits [] (header_top profile)
header_fits profile is short = record {
  v3 = is;
  v5 = λ e. omega (arith, e);
  v6 = header_meets (header_top profile) is;
  v7 = flat_none [] (header_top profile) refl;
  v8 = λ f chunk. absurd (omega (arith, chunk.kind));
  v10 = λ f place kind. absurd (omega (arith, kind));
  plain = λ name named. let chunk = named.is in absurd (omega (arith, chunk.kind));
  within = within_there 8 (length (header_text (record { profile = profile; library = library }))) short (omega (arith, short));
  unended = λ e. e;
}

-- without a chunk size each record is a piece
pub cuts_alone : (span : Option ℕ) (c : Cuts) (history : List Rec) → fold (put_behind None span) c history ≡ record { pieces = c.pieces ++ map alone history; waiting = c.waiting }
cuts_alone span c [] = ap (λ (l : List Piece). record { pieces = l; waiting = c.waiting }) (sym (append-nil c.pieces))
cuts_alone span c (r ∷ rs) =
    cuts_alone span (put_behind None span c r) rs
    ∙ ap (λ (l : List Piece). record { pieces = l; waiting = c.waiting }) (append_assoc c.pieces (alone r ∷ []) (map alone rs))

pub ascii : IsUtf8 library
unfolding lib.Utf8.encode
ascii = (library, (refl, refl))
