use Rattle.std.proofs.Common.{ℕ, List, Option, Ok, refl, sym, subst}
use Rattle.mcap_model.specs.Kept.{grammar, compressed, beyond}
use Rattle.mcap_model.specs.declared.refusals.ReadingRefused.{ReadingRefused}
use Rattle.mcap_scan.specs.RefusedReadings.{RefusalStands}
use Rattle.file_check.specs.Checking.{IsSo}
use Rattle.file_check.specs.CheckSteps.{checked_front, TellsCut}
use Rattle.file_check.specs.CutFiles.{NamesCut}
use Rattle.file_check.proofs.Refusing.{halted_at, cut_told, lacks_last, fault_unchecked}
use Rattle.file_check.proofs.CutTold.{halted_all, halt_told, magic_told, fault_cut}
use Rattle.file_check.proofs.unended.tell_refusal.Goals as goal

pub returns-in-Ok-clause-tells : goal.returns-in-Ok-clause-tells
returns-in-Ok-clause-tells g c = λ old now same reads file told ended.
    let len = c.args.len in
    let offset = c.in-Grammar.offset in
    let rule = c.in-Grammar.rule in
    let stands = subst (λ (w : ReadingRefused). RefusalStands w (checked_front old len) now reads.0) c.in-Grammar.is reads.1 in
    let halts = halted_at old now (g.T.Store.state c.args.store.now).bytes file len reads.0 (grammar offset rule) same told stands in
    cut_told file len offset rule reads.0 c.in-Ok.failed c.requires.fits ended halts (subst (λ (t : Option (List ℕ)). TellsCut t len offset rule c.in-Ok.failed) told c.in-Ok.ensures.tells)

pub returns-in-Err-clause-tells : goal.returns-in-Err-clause-tells
returns-in-Err-clause-tells g c = λ old now same reads file told ended. fault_unchecked file c.in-Err.why c.in-Err.ensures.fault

pub returns-in-Compressed-clause-tells : goal.returns-in-Compressed-clause-tells
returns-in-Compressed-clause-tells g c = λ old now same reads file told ended. subst (IsSo file) (sym c.lacks_end-packed.ensures) (lacks_last file c.args.len ended)

pub returns-in-Limit-clause-tells : goal.returns-in-Limit-clause-tells
returns-in-Limit-clause-tells g c = λ old now same reads file told ended. subst (IsSo file) (sym c.lacks_end-long.ensures) (lacks_last file c.args.len ended)

pub returns-in-Ok-clause-cut : goal.returns-in-Ok-clause-cut
returns-in-Ok-clause-cut g c = λ old now same reads file told size.
    let len = c.args.len in
    let offset = c.in-Grammar.offset in
    let rule = c.in-Grammar.rule in
    let stands = subst (λ (w : ReadingRefused). RefusalStands w (checked_front old len) now reads.0) c.in-Grammar.is reads.1 in
    halt_told file len reads.0 (grammar offset rule) c.in-Ok.failed size (halted_all old now (g.T.Store.state c.args.store.now).bytes file len reads.0 (grammar offset rule) same told size stands) c.in-Ok.ensures.tells.0

pub returns-in-Err-clause-cut : goal.returns-in-Err-clause-cut
returns-in-Err-clause-cut g c = λ old now same reads file told size. fault_cut file c.in-Err.why c.in-Err.ensures.fault

pub returns-in-Compressed-clause-cut : goal.returns-in-Compressed-clause-cut
returns-in-Compressed-clause-cut g c = λ old now same reads file told size.
    let len = c.args.len in
    let halt = compressed c.in-Compressed.offset c.in-Compressed.name in
    let stands = subst (λ (w : ReadingRefused). RefusalStands w (checked_front old len) now reads.0) c.in-Compressed.is reads.1 in
    subst (λ v. NamesCut file (Ok v)) (sym c.lacks_end-packed.ensures) (magic_told file len reads.0 halt size (halted_all old now (g.T.Store.state c.args.store.now).bytes file len reads.0 halt same told size stands) refl)

pub returns-in-Limit-clause-cut : goal.returns-in-Limit-clause-cut
returns-in-Limit-clause-cut g c = λ old now same reads file told size.
    let len = c.args.len in
    let halt = beyond c.in-Limit.offset in
    let stands = subst (λ (w : ReadingRefused). RefusalStands w (checked_front old len) now reads.0) c.in-Limit.is reads.1 in
    subst (λ v. NamesCut file (Ok v)) (sym c.lacks_end-long.ensures) (magic_told file len reads.0 halt size (halted_all old now (g.T.Store.state c.args.store.now).bytes file len reads.0 halt same told size stands) refl)
