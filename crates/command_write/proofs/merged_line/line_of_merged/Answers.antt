-- The line is put together from the left.
use Rattle.std.proofs.Common.{◌≡◌, List, ℕ, [], ◌++◌, append_assoc, codes}
use Rattle.command_write.specs.Recover.{number_after_name}
use Rattle.command_write.specs.Merge.{merged_line}
use Rattle.command_write.proofs.merged_line.line_of_merged.Goals as goal

joined : (l0 l1 l2 l3 l4 a b c d : List ℕ) → l0 ≡ [] → l1 ≡ l0 ++ a → l2 ≡ l1 ++ b → l3 ≡ l2 ++ c → l4 ≡ l3 ++ d → l4 ≡ a ++ (b ++ (c ++ d))
joined l0 l1 l2 l3 l4 a b c d h0 h1 h2 h3 h4 = rw (h4, h3, h2, h1, h0) (simp append_assoc)

pub returns : goal.returns
unfolding merged_line
returns c =
    let m = c.args.merged in
    joined _ _ _ _ c.push_text.new.self (number_after_name (codes "merged inputs=") c.args.inputs) (number_after_name (codes " messages=") m.messages) (number_after_name (codes " records=") m.records) (codes "\n")
    c.new-line.ensures c.push_named.ensures.text c.push_named-2.ensures.text c.push_named-3.ensures.text c.push_text.ensures.text
