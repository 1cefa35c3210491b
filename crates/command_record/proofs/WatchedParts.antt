-- Which parts of a recording with watchers failed, as the counts and what it told show.
use Rattle.std.proofs.Common.{◌≡◌, ◌⊎◌, ℕ, ◌≤◌, Bool, true, false, ◌||◌, List, length, refl, sym, ap, inl, inr, ◌∙◌}
use Rattle.std.specs.Prelude.{◌↔◌}
use Rattle.std.proofs.lemmas.Bool.{both_ways}
use Rattle.mcap_io.specs.Outside.{Rose}
use Rattle.command_record.specs.declared.watched_answer.WatchedCounts.{WatchedCounts}
use Rattle.command_record.specs.declared.watched_answer.WatchedFailures.{WatchedFailures}
use Rattle.command_record.specs.declared.watched_names.WatchedOutcome.{WatchedOutcome}
use Rattle.command_base.specs.Outputs.{some_failed}
use Rattle.command_record.specs.WatchedSteps.{WatchedPartsShow}
use Rattle.command_record.proofs.Parts.{but, on_or_off, but_both, but_first, but_second, three, three_second, three_third, three_which, three_none, shown, shown_every, shown_some, shown_which, shown_same}

-- so every name is blamed, or none that the recording didn't tell of
every_off : (rose some every shown : Bool) → every ≡ but rose some → some ≡ shown → (rose ≡ true → shown ≡ true) → every ≡ false
every_off rose some every shown every_is same shows = elim (on_or_off every) [
  | inl on ↦ absurd (both_ways some (but_second rose some every every_is on) (same ∙ shows (but_first rose some every every_is on)))
  | inr it ↦ it
]

either : (a b both : Bool) → both ≡ (a || b) → (a ≡ true) ⊎ (b ≡ true) → both ≡ true
either true b both is some = is
either false b both is (inl some) = absurd cc
either false b both is (inr some) = is ∙ some

which_of : (a b both : Bool) → both ≡ (a || b) → both ≡ true → (a ≡ true) ⊎ (b ≡ true)
which_of true b both is on = inl refl
which_of false b both is on = inr (sym is ∙ on)

-- what the parts are, from what the counts and the outcome say
pub watched_parts_show : (before now : WatchedCounts) (watches feeds : List (List ℕ)) (outcome : WatchedOutcome) (failed : WatchedFailures) (some some_watch told world inputs outputs sinks : Bool) → (Rose before.watches now.watches → 1 ≤ length watches) → 1 ≤ length feeds
    → some ≡ some_failed outcome.feeds_failed.items → some_watch ≡ some_failed outcome.watches_failed.items → told ≡ (some || some_watch)
    → ((world ≡ true) ↔ Rose before.seen.world now.seen.world) → ((inputs ≡ true) ↔ Rose before.seen.inputs now.seen.inputs) → ((outputs ≡ true) ↔ Rose before.seen.outputs now.seen.outputs) → ((sinks ≡ true) ↔ Rose before.watches now.watches)
    → ((failed.parts.printing ≡ true) ↔ Rose before.seen.printing now.seen.printing)
    → failed.parts.inputs.now ≡ outcome.feeds_failed.items → failed.watches.now ≡ outcome.watches_failed.items → failed.parts.every_input ≡ but inputs some → failed.every_watch ≡ but sinks some_watch
    → failed.parts.out ≡ three outcome.out_failed outputs (but world told)
    → (some_failed outcome.feeds_failed.items ≡ true → Rose before.seen.world now.seen.world ⊎ Rose before.seen.inputs now.seen.inputs) → (outcome.out_failed ≡ true → Rose before.seen.world now.seen.world ⊎ Rose before.seen.outputs now.seen.outputs)
    → (some_failed outcome.watches_failed.items ≡ true → Rose before.seen.world now.seen.world ⊎ (Rose before.seen.outputs now.seen.outputs ⊎ Rose before.watches now.watches))
    → WatchedPartsShow before now watches feeds outcome failed
watched_parts_show before now watches feeds outcome failed some some_watch told world inputs outputs sinks many_watches many some_is watch_is told_is is_world is_inputs is_outputs is_sinks is_printing feeds_told watches_told every_is every_watch_is out_is feed_cause out_cause watch_cause =
    let every = failed.parts.every_input in
    let flags = failed.parts.inputs.now in
    let out = failed.parts.out in
    let same_some : some_failed flags ≡ some = ap some_failed feeds_told ∙ sym some_is in
    let same_watch : some_failed failed.watches.now ≡ some_watch = ap some_failed watches_told ∙ sym watch_is in
    let inputs_on : inputs ≡ true → (every ≡ true) ⊎ (some ≡ true) = λ on. elim (on_or_off some) [ inl yes_it ↦ inr yes_it | inr off ↦ inl (but_both inputs some every every_is on off) ] in
    let sinks_on : sinks ≡ true → (failed.every_watch ≡ true) ⊎ (some_watch ≡ true) = λ on. elim (on_or_off some_watch) [ inl yes_it ↦ inr yes_it | inr off ↦ inl (but_both sinks some_watch failed.every_watch every_watch_is on off) ] in
    let world_on : world ≡ true → (some ≡ true) ⊎ ((out ≡ true) ⊎ (some_watch ≡ true)) = λ on. elim (on_or_off told) [
      | inl yes_it ↦ elim (which_of some some_watch told told_is yes_it) [ inl feed ↦ inl feed | inr watch ↦ inr (inr watch) ]
      | inr off ↦ inr (inl (three_third outcome.out_failed outputs (but world told) out out_is (but_both world told (but world told) refl on off)))
    ] in
    let every_rose : failed.every_watch ≡ true → Rose before.watches now.watches = λ all. is_sinks.0 (but_first sinks some_watch failed.every_watch every_watch_is all) in
    let blames : some_failed failed.watches.now ≡ true → some_failed (shown watches failed.every_watch failed.watches.now) ≡ true = λ one. elim (on_or_off failed.every_watch) [
      | inl all ↦ shown_every watches failed.every_watch failed.watches.now (many_watches (every_rose all)) all
      | inr off ↦ ap some_failed (shown_same watches failed.every_watch failed.watches.now off) ∙ one
    ] in
    let outputs_on : outputs ≡ true → out ≡ true = λ on. three_second outcome.out_failed outputs (but world told) out out_is on in
    record {
      causes = record {
        feed_cause = λ on. elim (shown_which feeds every flags on) [
          | inl all ↦ inr (is_inputs.0 (but_first inputs some every every_is all))
          | inr one ↦ feed_cause (sym some_is ∙ sym same_some ∙ one)
        ];
        out_cause = λ on. elim (three_which outcome.out_failed outputs (but world told) out out_is on) [
          | inl own ↦ out_cause own
          | inr (inl later) ↦ inr (is_outputs.0 later)
          | inr (inr left) ↦ inl (is_world.0 (but_first world told (but world told) refl left))
        ];
        watch_cause = λ on. elim (shown_which watches failed.every_watch failed.watches.now on) [
          | inl all ↦ inr (inr (every_rose all))
          | inr one ↦ watch_cause (sym watch_is ∙ sym same_watch ∙ one)
        ];
        inputs_told = λ rose. elim (inputs_on (is_inputs.1 rose)) [ inl all ↦ shown_every feeds every flags many all | inr one ↦ shown_some feeds every flags many (same_some ∙ one) ];
        outputs_told = λ rose. outputs_on (is_outputs.1 rose);
        watches_told = λ rose. elim (sinks_on (is_sinks.1 rose)) [
          | inl all ↦ shown_every watches failed.every_watch failed.watches.now (many_watches rose) all
          | inr one ↦ blames (same_watch ∙ one)
        ];
        world_told = λ rose. elim (world_on (is_world.1 rose)) [
          | inl one ↦ inl (shown_some feeds every flags many (same_some ∙ one))
          | inr (inl it) ↦ inr (inl it)
          | inr (inr one) ↦ inr (inr (blames (same_watch ∙ one)))
        ];
      };
      printing = is_printing;
      any = λ risen. elim risen [
        | inl (inl rose) ↦ elim (world_on (is_world.1 rose)) [
          | inl one ↦ inl (inr (inl (same_some ∙ one)))
          | inr (inl it) ↦ inl (inr (inr (inl it)))
          | inr (inr one) ↦ inr (inr (same_watch ∙ one))
        ]
        | inl (inr (inl rose)) ↦ elim (inputs_on (is_inputs.1 rose)) [ inl all ↦ inl (inl all) | inr one ↦ inl (inr (inl (same_some ∙ one))) ]
        | inl (inr (inr (inl rose))) ↦ inl (inr (inr (inl (outputs_on (is_outputs.1 rose)))))
        | inl (inr (inr (inr rose))) ↦ inl (inr (inr (inr (is_printing.1 rose))))
        | inr rose ↦ elim (sinks_on (is_sinks.1 rose)) [ inl all ↦ inr (inl all) | inr one ↦ inr (inr (same_watch ∙ one)) ]
      ];
      every = every_rose;
      feeds_told = feeds_told;
      watches_told = watches_told;
      feeds_are = λ shows. shown_same feeds every flags (every_off inputs some every (some_failed outcome.feeds_failed.items) every_is some_is (λ on. shows (is_inputs.0 on))) ∙ feeds_told;
      watches_are = λ shows. shown_same watches failed.every_watch failed.watches.now (every_off sinks some_watch failed.every_watch (some_failed outcome.watches_failed.items) every_watch_is watch_is (λ on. shows (is_sinks.0 on))) ∙ watches_told;
      out_is = λ first second. three_none outcome.out_failed outputs (but world told) out out_is (λ on. first (is_outputs.0 on))
          (λ on. elim (second (is_world.0 (but_first world told (but world told) refl on))) [
            | inl one ↦ absurd (both_ways told (but_second world told (but world told) refl on) (either some some_watch told told_is (inl (some_is ∙ one))))
            | inr (inl own) ↦ own
            | inr (inr one) ↦ absurd (both_ways told (but_second world told (but world told) refl on) (either some some_watch told told_is (inr (watch_is ∙ one))))
          ]);
    }
