-- The line is put together from the left.
use Rattle.std.proofs.Common.{◌≡◌, List, ℕ, [], ◌++◌, append_assoc, codes, ap, ◌∙◌}
use Rattle.command_write.specs.Recover.{number_after_name, recovered_line, why_text}
use Rattle.command_write.proofs.recovered_line.line_of_recovered.Goals as goal

joined : (l0 l1 l2 l3 l4 l5 l6 l7 a b c d e f n : List ℕ) → l0 ≡ [] → l1 ≡ l0 ++ a → l2 ≡ l1 ++ b → l3 ≡ l2 ++ c → l4 ≡ l3 ++ d → l5 ≡ l4 ++ e → l6 ≡ l5 ++ f → l7 ≡ l6 ++ n
    → l7 ≡ a ++ (b ++ (c ++ (d ++ (e ++ (f ++ n)))))
joined l0 l1 l2 l3 l4 l5 l6 l7 a b c d e f n h0 h1 h2 h3 h4 h5 h6 h7 = rw (h7, h6, h5, h4, h3, h2, h1, h0) (simp append_assoc)

pub returns : goal.returns
unfolding recovered_line
returns c =
    let r = c.args.recovered in
    let word : c.push_text-2.new.self ≡ c.push_text.new.self ++ why_text r.why = c.push_text-2.ensures.text ∙ ap (λ (l : List ℕ). c.push_text.new.self ++ l) c.word_of.ensures.word in
    joined _ _ _ _ _ _ _ c.push_text-3.new.self (number_after_name (codes "recovered messages=") r.messages) (number_after_name (codes " records=") r.records) (number_after_name (codes " extras=") r.extras)
    (number_after_name (codes " at=") r.at) (codes " ") (why_text r.why) (codes "\n") c.new-line.ensures c.push_named.ensures.text c.push_named-2.ensures.text c.push_named-3.ensures.text
    c.push_named-4.ensures.text c.push_text.ensures.text word c.push_text-3.ensures.text
