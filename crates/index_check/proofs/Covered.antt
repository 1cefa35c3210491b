-- The CRC of a summary.
use Rattle.std.proofs.Common.{◌≡◌, ℕ, ◌+◌, List, sym, ap, ◌∙◌}
use Rattle.mcap_wire.specs.Layout.{part}
use Rattle.mcap_crc.specs.Remainder.{remainder}
use Rattle.mcap_model.specs.Tops.{Top}
use Rattle.mcap_model.specs.Fields.{IsFooter}
use Rattle.mcap_model.specs.Whole.{offset_of, V16}
use Rattle.mcap_model.proofs.Files.{footer_once}

module _ (file : List ℕ) (tops : List Top) (n : ℕ) (t : Top) (start offsets crc : ℕ) (is : IsFooter t start offsets crc) where
  pub crc_unstarted : start ≡ 0 → V16 file tops n t
  crc_unstarted none summary other own last shows some given =
      let once = footer_once t.content start offsets crc summary other own is.layout shows.layout in
      absurd (some (sym once.0 ∙ none))

  pub crc_ungiven : crc ≡ 0 → V16 file tops n t
  crc_ungiven none summary other own last shows some given =
      let once = footer_once t.content start offsets crc summary other own is.layout shows.layout in
      absurd (given (sym once.2 ∙ none))

  pub crc_right : crc ≡ remainder (part start (offset_of tops n + 25) file) → V16 file tops n t
  crc_right same summary other own last shows some given =
      let once = footer_once t.content start offsets crc summary other own is.layout shows.layout in
      sym once.2 ∙ same ∙ ap (λ (k : ℕ). remainder (part k (offset_of tops n + 25) file)) once.0
