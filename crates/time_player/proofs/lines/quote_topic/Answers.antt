use Rattle.std.proofs.Common.{◌≡◌, ◌++◌, ◌∷◌, [], List, ℕ, sym, ap, subst, ◌∙◌}
use Rattle.json.specs.Print.{quoted}
use Rattle.mcap_model.specs.declared.table.Declared.{Declared}
use Rattle.time_player.specs.Lines.{Quotes}
use Rattle.time_player.proofs.Quoted.{quotes_known, quotes_new}
use Rattle.time_player.proofs.lines.quote_topic.Goals as goal

pub returns-in-Some : goal.returns-in-Some
returns-in-Some c = λ before was. let f = c.in-Some.ensures in quotes_known before c.args.quoted.now c.args.entry.now was (f.0, f.1, f.2, f.3)

pub returns-in-Ok-add : goal.returns-in-Ok-add
returns-in-Ok-add c = λ before was.
    let text : c.as_bytes.result.now ≡ quoted c.args.entry.now.topic = c.as_bytes.ensures.value ∙ c.in-Ok.ensures ∙ ap quoted c.as_str.ensures.same in
    subst (Quotes (before ++ c.args.entry.now ∷ []))
    (sym (c.in-Ok-add.ensures.ok ∙ ap (λ (l : List ℕ). c.args.quoted.now ++ made c.args.entry.now.channel l ∷ []) text))
    (quotes_new before c.args.quoted.now c.args.entry.now c.in-None.ensures was)
  where
    made : ℕ → List ℕ → Declared
    made id content = record { id = id; content = content }
