use Rattle.std.proofs.Common.{◌≡◌, ℕ, suc, ap, refl, sym, ◌∙◌, ◌&&◌, true, false, List, [], ◌∷◌, length, map, drop, arith}
use Rattle.std.specs.List.{list_all}
use Rattle.std.proofs.lemmas.List.{drop_all}
use Rattle.std.proofs.Math.Seq.{drop-cons}
use Rattle.pat_words_spec.specs.Patterns.{Pat}
use Rattle.pat_semantics_spec.specs.Programs.{Program}
use Rattle.pat_type_system_spec.specs.Holdings.{receivers}
use Rattle.pat_derivation_spec.specs.Derivations.{Derivation, written_typing}
use Rattle.pat_patterns.specs.declared.pattern.Pattern.{Pattern}
use Rattle.pat_checkpoint_spec.specs.Checkpoints.{Checkpoint, interfaces_of}
use Rattle.pat_checkpoint_spec.specs.HoldingsInOrder.{lines_held}
use Rattle.pat_checkpoint_spec.specs.Mailboxes.{is_single, holders_hold}
use Rattle.pat_checkpoint_balances.specs.Gathered.{rows_view, IsGathered}
use Rattle.pat_checkpoint_balances.specs.declared.gathering.Sides.{Sides}
use Rattle.pat_checkpoint_balances.proofs.balances.holders_hold.Goals as goal

each : (f : ℕ → List Pat) (live : List ℕ) → list_all is_single (map f live) ≡ list_all (λ a. is_single (f a)) live
each f [] = refl
each f (a ∷ more) = ap (λ b. is_single (f a) && b) (each f more)

holds_by : (p : Program) (d : Derivation) (x : Checkpoint) (s : Sides) → IsGathered p d x s → list_all is_single (rows_view s.receivers) ≡ holders_hold p d x
holds_by p d x s g =
    ap (list_all is_single) g.right ∙ each (λ a. receivers (lines_held p (written_typing p d) (interfaces_of x) x.config a)) x.config.live

several : (r : List Pattern) (rs : List (List Pattern)) → (length r ≡ 1 → ⊥) → false ≡ list_all is_single (rows_view (r ∷ rs))
several [] rs h = refl
several (e ∷ []) rs h = absurd (h refl)
several (e ∷ f ∷ r) rs h = refl

pub returns-then-len-ne1 : goal.returns-then-len-ne1
returns-then-len-ne1 c = λ p d x g.
    let rs = c.as_slice-receivers-items.result.now in
    let i = c.loop-receivers.receivers-index in
    let r = c.receivers-item.result in
    several r (drop (suc i) rs) (λ e. c.if-len-ne1.true (c.len.ensures ∙ e))
    ∙ ap (λ l. list_all is_single (rows_view l)) (sym (drop-cons rs i r c.loop-receivers-test.true ∙ ap (λ z. z ∷ drop (suc i) rs) (sym c.receivers-item.is)))
    ∙ ap (λ l. list_all is_single (rows_view (drop i l))) c.as_slice-receivers-items.ensures
    ∙ c.loop-receivers.invariant ∙ holds_by p d x c.args.sides.now g

pub returns : goal.returns
returns c = λ p d x g.
    let same = ap length c.as_slice-receivers-items.ensures in
    ap (λ l. list_all is_single (rows_view l)) (sym (drop_all c.loop-receivers.receivers-index c.args.sides.now.receivers (omega (arith, same, c.loop-receivers-test.false))))
    ∙ c.loop-receivers.invariant ∙ holds_by p d x c.args.sides.now g
