use Rattle.std.proofs.Common.{Vec, Global, ◌++◌, ℕ, List, subst, sym}
use Rattle.std.specs.Prelude.{Contains, All}
use Rattle.mcap_wire.specs.Layout.{le}
use Rattle.chunk_build.specs.declared.row.Row.{Row}
use Rattle.chunk_build.specs.Rows.{rows_in}
use Rattle.chunk_build.proofs.Taking.{known_with}
use Rattle.chunk_build.proofs.row.put_entry.Goals as goal

pub returns-clause-sound : goal.returns-clause-sound
returns-clause-sound c =
    let used = c.note_use.new.rows.used.items in
    record {
      rise = c.add_entry.ensures.rise;
      used = subst (λ ls. All (λ (p : ℕ × List ℕ). Contains used p.0) ls) (sym c.add_entry.ensures.entries)
          (known_with (Contains used) _ c.args.channel (le 8 c.args.time ++ le 8 c.args.offset) c.note_use.ensures.there
          (subst (λ (v : Vec Row Global). All (λ (p : ℕ × List ℕ). Contains used p.0) (rows_in v.items)) (sym c.note_use.ensures.list) c.note_use.ensures.used));
    }
