-- Hexadecimal digits.
use Rattle.std.proofs.Common.{◌≡◌, ℕ, zero, suc, ◌-◌, ◌/◌, ◌%◌, ◌<◌, List, [], ◌∷◌, ◌++◌, refl, sym, ap, ◌∙◌, append_assoc, append-nil, arith}
use Rattle.time_player.specs.Text.{hex_digit}
use Rattle.live_watcher.specs.Text.{hex_text}

pub hex_none : (n : ℕ) → hex_text 0 n ≡ []
unfolding hex_text
hex_none n = refl

pub hex_more : (k n : ℕ) → 0 < k → hex_text k n ≡ hex_text (k - 1) (n / 16) ++ hex_digit (n % 16) ∷ []
unfolding hex_text
hex_more zero n some = absurd (omega (arith, some))
hex_more (suc k) n some =
    let fewer : k ≡ suc k - 1 = omega arith in
    ap (λ (j : ℕ). hex_text j (n / 16) ++ hex_digit (n % 16) ∷ []) fewer

pub none_put : (line : List ℕ) (k n : ℕ) → k ≡ 0 → line ≡ line ++ hex_text k n
none_put line k n none = sym (append-nil line) ∙ ap (λ (l : List ℕ). line ++ l) (sym (hex_none n)) ∙ ap (λ (j : ℕ). line ++ hex_text j n) (sym none)

pub one_put : (line mid digit new : List ℕ) (k n : ℕ) → 0 < k → mid ≡ line ++ hex_text (k - 1) (n / 16) → digit ≡ hex_digit (n % 16) ∷ [] → new ≡ mid ++ digit → new ≡ line ++ hex_text k n
one_put line mid digit new k n some before is put =
    put ∙ ap (λ (l : List ℕ). l ++ digit) before ∙ append_assoc line (hex_text (k - 1) (n / 16)) digit
    ∙ ap (λ (l : List ℕ). line ++ (hex_text (k - 1) (n / 16) ++ l)) is ∙ ap (λ (l : List ℕ). line ++ l) (sym (hex_more k n some))
