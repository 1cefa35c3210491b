-- A Message Index that is wrong in the front of a file is a flaw of the whole file.
use Rattle.std.proofs.Common.{◌≡◌, ℕ, suc, List, ◌++◌, length, ap, ◌∙◌, append_assoc, arith}
use Rattle.std.proofs.lemmas.List.{length-append}
use Rattle.mcap_wire.specs.Layout.{magic}
use Rattle.mcap_model.specs.Tops.{Top, Tops, spelled}
use Rattle.mcap_model.specs.Kept.{reading_limits, Good}
use Rattle.mcap_model.specs.Valid.{IsPlain, Flaw, flaw_9}
use Rattle.mcap_model.proofs.Lists.{each_taken}
use Rattle.mcap_model.proofs.Readings.{short_there}
use Rattle.mcap_model.specs.declared.rules.Rule.TheVariants as rules
use Rattle.file_check.specs.CutFiles.{IndexFails}

-- the file goes on with these last bytes, which weren't read
pub index_flaw : (bytes last : List ℕ) (tops : List Top) (rest : List ℕ) (offset : ℕ) → Tops bytes tops rest → Good reading_limits tops → length last ≡ 8 → IndexFails tops offset → Flaw (bytes ++ last) rules.V9 offset
index_flaw bytes last tops rest offset stands good eight fails = flaw_9 offset (record {
  tops = tops;
  rest = rest ++ last;
  stand = record { split = ap (λ (l : List ℕ). l ++ last) stands.split ∙ append_assoc magic (spelled tops ++ rest) last ∙ ap (λ (l : List ℕ). magic ++ l) (append_assoc (spelled tops) rest last) };
  short = λ n t at. let fits = good n t at in short_there _ (length t.content) fits.within;
  inside = λ v2. omega (arith, eight, length-append rest last);
  place = fails.place;
  top = fails.top;
  at = fails.at;
  there = fails.there;
  breaks = λ kept. fails.breaks (kept (each_taken IsPlain tops (suc fails.place) (λ n t at. let fits = good n t at in fits.plain)));
})
