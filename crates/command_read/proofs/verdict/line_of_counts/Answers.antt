-- The line is put together from the left.
use Rattle.std.proofs.Common.{◌≡◌, List, ℕ, [], ◌++◌, append_assoc, codes}
use Rattle.command_read.specs.Check.{counts_line, named_number}
use Rattle.command_read.proofs.verdict.line_of_counts.Goals as goal

joined : (l0 l1 l2 l3 l4 l5 l6 l7 l8 k a b c d e f n : List ℕ) → l0 ≡ [] → l1 ≡ l0 ++ k → l2 ≡ l1 ++ a → l3 ≡ l2 ++ b → l4 ≡ l3 ++ c → l5 ≡ l4 ++ d → l6 ≡ l5 ++ e → l7 ≡ l6 ++ f → l8 ≡ l7 ++ n
    → l8 ≡ k ++ (a ++ (b ++ (c ++ (d ++ (e ++ (f ++ n))))))
joined l0 l1 l2 l3 l4 l5 l6 l7 l8 k a b c d e f n h0 h1 h2 h3 h4 h5 h6 h7 h8 = rw (h8, h7, h6, h5, h4, h3, h2, h1, h0) (simp append_assoc)

pub returns : goal.returns
unfolding counts_line
returns c =
    let n = c.args.counts in
    joined _ _ _ _ _ _ _ _ c.push_text-2.new.self c.args.kind.now (named_number (codes " messages=") n.messages) (named_number (codes " channels=") n.channels) (named_number (codes " schemas=") n.schemas)
    (named_number (codes " chunks=") n.chunks) (named_number (codes " attachments=") n.attachments) (named_number (codes " metadata=") n.metadata) (codes "\n") c.new-line.ensures c.push_text.ensures.text c.push_named.ensures.text c.push_named-2.ensures.text c.push_named-3.ensures.text
    c.push_named-4.ensures.text c.push_named-5.ensures.text c.push_named-6.ensures.text c.push_text-2.ensures.text
