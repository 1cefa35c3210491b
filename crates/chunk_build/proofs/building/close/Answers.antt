use Rattle.std.proofs.Common.{refl, arith}
use Rattle.std.proofs.lemmas.Grind.{common_steps}
use Rattle.std.proofs.lemmas.List.{length-drop}
use Rattle.chunk_build.proofs.building.close.Goals as goal

pub returns-clause-built : goal.returns-clause-built
returns-clause-built c =
    let size = length-drop 49 c.args.chunk.now.bytes.items in
    record {
      spelled = grind (arith, common_steps);
      chunk = omega (arith, size, c.len-chunk_length.ensures, c.requires.begun, c.args.chunk.now.bytes.ok.0);
      start = refl;
      end = refl;
      counted = refl;
      declaring = refl;
      parts = grind (arith, common_steps);
    }
