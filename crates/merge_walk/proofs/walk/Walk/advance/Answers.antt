use Rattle.std.proofs.Common.{◌≡◌, ℕ, map, Option, Some, None, subst, rules, arith}
use Rattle.merge_walk.specs.Stores.{files_of}
use Rattle.merge_walk.specs.Walks.{FindsDue}
use Rattle.merge_walk.proofs.Walked.{due_within, gone_stands, refused_from, advance_gives, advance_ends}
use Rattle.merge_walk.proofs.walk.Walk.advance.Goals as goal

pub load_due-requires-clause-stands : goal.load_due-requires-clause-stands
load_due-requires-clause-stands g c =
    gone_stands (files_of (map (λ s. g.T.Store.state s) c.args.stores.now.items)) c.args.self.now c.let_go.new.self c.let_go.ensures c.requires.stands

pub give-requires-clause-within : goal.give-requires-clause-within
give-requires-clause-within g c =
    let is : c.in-Ok-Some.field-0 ≡ Some c.in-Ok-Some.i = search rules in
    let finds = subst (λ (o : Option ℕ). FindsDue (files_of (map (λ s. g.T.Store.state s) c.args.stores.now.items)) c.let_go.new.self c.load_due.new.self o) is c.in-Ok-Some.ensures.finds in
    due_within c.load_due.new.self c.in-Ok-Some.i finds.due

pub returns-in-Ok-Some-clause-advances : goal.returns-in-Ok-Some-clause-advances
returns-in-Ok-Some-clause-advances g c =
    let is : c.in-Ok-Some.field-0 ≡ Some c.in-Ok-Some.i = search rules in
    let finds = subst (λ (o : Option ℕ). FindsDue (files_of (map (λ s. g.T.Store.state s) c.args.stores.now.items)) c.let_go.new.self c.load_due.new.self o) is c.in-Ok-Some.ensures.finds in
    advance_gives (files_of (map (λ s. g.T.Store.state s) c.args.stores.now.items)) c.args.self.now c.let_go.new.self c.load_due.new.self c.give.new.self c.in-Ok-Some.i c.give.result c.let_go.ensures finds c.give.ensures

pub returns-in-Ok-None-clause-advances : goal.returns-in-Ok-None-clause-advances
returns-in-Ok-None-clause-advances g c =
    let is : c.in-Ok-None.field-0 ≡ None = search rules in
    let finds = subst (λ (o : Option ℕ). FindsDue (files_of (map (λ s. g.T.Store.state s) c.args.stores.now.items)) c.let_go.new.self c.load_due.new.self o) is c.in-Ok-None.ensures.finds in
    advance_ends (files_of (map (λ s. g.T.Store.state s) c.args.stores.now.items)) c.args.self.now c.let_go.new.self c.load_due.new.self c.let_go.ensures finds

pub returns-in-Err-clause-advances : goal.returns-in-Err-clause-advances
returns-in-Err-clause-advances g c =
    let lets = c.let_go.ensures in
    let next = lets.next in
    refused_from (files_of (map (λ s. g.T.Store.state s) c.args.stores.now.items)) c.args.self.now c.let_go.new.self c.in-Err.why lets.pieces (omega (arith, next)) c.in-Err.ensures.finds
