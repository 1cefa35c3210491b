use Rattle.std.proofs.Common.{List, map, subst, arith}
use Rattle.merge_walk.specs.declared.cursors.Cursor.{Cursor}
use Rattle.merge_walk.specs.Cursors.{FindsFirstCursor, TellsBefore}
use Rattle.merge_walk.proofs.Dues.{due_begins, due_goes_on, due_stands, due_within, due_found, due_refused, refused_leaves, due_before_next, next_before_due}
use Rattle.merge_walk.proofs.Places.{read_there}
use Rattle.merge_walk.proofs.Walked.{due_end}
use Rattle.merge_walk.proofs.walk.Walk.load_due.Goals as goal

pub pieces-init : goal.pieces-init
pieces-init g c =
    due_begins (map (λ s. g.T.Store.state s) c.args.stores.now.items) c.args.self.now c.requires.left c.requires.fits

pub returns-then-self-len-clause-finds : goal.returns-then-self-len-clause-finds
returns-then-self-len-clause-finds g c =
    let olds = map (λ s. g.T.Store.state s) c.args.stores.now.items in
    let nows = map (λ s. g.T.Store.state s) c.pieces.stores.items in
    let start = c.args.self.now in
    let now = c.pieces.self in
    let was = c.pieces.invariant in
    let found = c.first_due-due.result in
    let first = subst (λ (l : List Cursor). FindsFirstCursor l found) c.deref.ensures.value c.first_due-due.ensures in
    due_found olds nows start now was found (due_end now found first (omega (arith, c.if-self-len.true, c.len.ensures, now.pieces.ok.0)))

pub returns-then-comes_before-clause-finds : goal.returns-then-comes_before-clause-finds
returns-then-comes_before-clause-finds g c =
    let olds = map (λ s. g.T.Store.state s) c.args.stores.now.items in
    let nows = map (λ s. g.T.Store.state s) c.pieces.stores.items in
    let start = c.args.self.now in
    let now = c.pieces.self in
    let was = c.pieces.invariant in
    let found = c.first_due-due.result in
    let first = subst (λ (l : List Cursor). FindsFirstCursor l found) c.deref.ensures.value c.first_due-due.ensures in
    let within = due_within olds nows start now was c.requires.stands in
    let next = c.index.result.now in
    let at = read_there now.pieces.items now.next next c.index.ensures (omega (arith, within, c.if-self-len.false, c.len.ensures, now.pieces.ok.0)) in
    let tells = subst (λ (l : List Cursor). TellsBefore l found next c.comes_before.result) c.deref-in-pieces.ensures.value c.comes_before.ensures in
    due_found olds nows start now was found (due_before_next now found c.comes_before.result next first tells at c.if-comes_before.true)

pub load_next-requires-clause-stands : goal.load_next-requires-clause-stands
load_next-requires-clause-stands g c =
    let olds = map (λ s. g.T.Store.state s) c.args.stores.now.items in
    let nows = map (λ s. g.T.Store.state s) c.pieces.stores.items in
    let start = c.args.self.now in
    let now = c.pieces.self in
    let was = c.pieces.invariant in
    due_stands olds nows start now was c.requires.stands

pub pieces-preserved : goal.pieces-preserved
pieces-preserved g c =
    let olds = map (λ s. g.T.Store.state s) c.args.stores.now.items in
    let nows = map (λ s. g.T.Store.state s) c.pieces.stores.items in
    let start = c.args.self.now in
    let now = c.pieces.self in
    let was = c.pieces.invariant in
    let found = c.first_due-due.result in
    let first = subst (λ (l : List Cursor). FindsFirstCursor l found) c.deref.ensures.value c.first_due-due.ensures in
    let within = due_within olds nows start now was c.requires.stands in
    let next = c.index.result.now in
    let at = read_there now.pieces.items now.next next c.index.ensures (omega (arith, within, c.if-self-len.false, c.len.ensures, now.pieces.ok.0)) in
    let tells = subst (λ (l : List Cursor). TellsBefore l found next c.comes_before.result) c.deref-in-pieces.ensures.value c.comes_before.ensures in
    due_goes_on olds nows start now was (map (λ s. g.T.Store.state s) c.load_next.new.stores.items) c.load_next.new.self c.in-Ok.ensures.loads c.in-Ok.ensures.stores (next_before_due now found c.comes_before.result next first tells at c.if-comes_before.false)

pub returns-in-Err-clause-finds : goal.returns-in-Err-clause-finds
returns-in-Err-clause-finds g c =
    let olds = map (λ s. g.T.Store.state s) c.args.stores.now.items in
    let nows = map (λ s. g.T.Store.state s) c.pieces.stores.items in
    let start = c.args.self.now in
    let now = c.pieces.self in
    let was = c.pieces.invariant in
    due_refused olds nows start now was c.in-Err.why c.in-Err.ensures.loads

pub returns-in-Err-clause-stores : goal.returns-in-Err-clause-stores
returns-in-Err-clause-stores g c =
    let olds = map (λ s. g.T.Store.state s) c.args.stores.now.items in
    let nows = map (λ s. g.T.Store.state s) c.pieces.stores.items in
    let start = c.args.self.now in
    let now = c.pieces.self in
    let was = c.pieces.invariant in
    refused_leaves olds nows start now was (map (λ s. g.T.Store.state s) c.load_next.new.stores.items) c.load_next.new.self c.in-Err.why c.in-Err.ensures.stores
