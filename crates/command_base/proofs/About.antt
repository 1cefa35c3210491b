-- What stands behind a name.
use Rattle.std.proofs.Common.{◌≡◌, ℕ, List, ◌++◌, ap, ◌∙◌, append_assoc, codes}
use Rattle.json.specs.Print.{quoted}
use Rattle.mcap_io.specs.Outside.{SinkState}
use Rattle.command_base.specs.declared.waiting.Waiting.{Waiting}
use Rattle.command_base.specs.Texts.{about}
use Rattle.command_base.specs.Putting.{PutsText}
use Rattle.command_base.proofs.Behind.{puts_behind, puts_same}

about_more : (name what more : List ℕ) → about name what ++ more ≡ about name (what ++ more)
about_more name what more = append_assoc (codes "mcaprec: ") (quoted name ++ what) more ∙ ap (λ (l : List ℕ). codes "mcaprec: " ++ l) (append_assoc (quoted name) what more)

-- what was put behind a name and what stands behind it
pub puts_about : (s0 s1 s2 : SinkState) (w0 w1 w2 : Waiting) (name what more : List ℕ) → PutsText s0 w0 s1 w1 (about name what) → PutsText s1 w1 s2 w2 more → PutsText s0 w0 s2 w2 (about name (what ++ more))
puts_about s0 s1 s2 w0 w1 w2 name what more first second =
    puts_same s0 s2 w0 w2 (about name what ++ more) (about name (what ++ more)) (about_more name what more) (puts_behind s0 s1 s2 w0 w1 w2 (about name what) more first second)
