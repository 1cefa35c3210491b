use Rattle.std.proofs.Common.{refl, sym, ap, ◌∙◌}
use Rattle.std.proofs.lemmas.Bool.{eqb-true, eq-eqb}
use Rattle.mcap_crc.specs.Remainder.{remainder}
use Rattle.index_check.proofs.Covered.{crc_unstarted, crc_ungiven, crc_right}
use Rattle.index_check.proofs.summary_crc.is_crc_right.Goals as goal

pub returns-then-footer-eq0 : goal.returns-then-footer-eq0
returns-then-footer-eq0 c = λ file tops n t last is covered. (
  λ e. crc_unstarted file tops n t c.args.footer.now.summary_start c.args.footer.now.summary_offset_start c.args.footer.now.summary_crc is c.if-footer-eq0.true,
  λ v. refl,
)

pub returns-then-footer-eq0-2 : goal.returns-then-footer-eq0-2
returns-then-footer-eq0-2 c = λ file tops n t last is covered. (
  λ e. crc_ungiven file tops n t c.args.footer.now.summary_start c.args.footer.now.summary_offset_start c.args.footer.now.summary_crc is c.if-footer-eq0-2.true,
  λ v. refl,
)

pub returns : goal.returns
returns c = λ file tops n t last is covered.
    let f = c.args.footer.now in (
      λ e. crc_right file tops n t f.summary_start f.summary_offset_start f.summary_crc is (eqb-true f.summary_crc c.crc_of.result e ∙ c.crc_of.ensures ∙ ap remainder covered),
      λ v. eq-eqb f.summary_crc c.crc_of.result (v f.summary_start f.summary_offset_start f.summary_crc last is c.if-footer-eq0.false c.if-footer-eq0-2.false ∙ ap remainder (sym covered) ∙ sym c.crc_of.ensures),
    )
