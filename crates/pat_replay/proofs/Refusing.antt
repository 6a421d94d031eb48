-- A history, entry after entry, as the loop goes over it.
use Rattle.std.proofs.Common.{◌≡◌, ℕ, suc, ◌+◌, ◌-◌, ◌<◌, List, ◌∷◌, length, drop, get_or, map, Option, Some, None, sym, ap, ◌∙◌, subst, arith}
use Rattle.std.specs.Prelude.{option_and_then}
use Rattle.std.proofs.lemmas.List.{drop_more}
use Rattle.pat_semantics_spec.specs.Programs.{Program}
use Rattle.pat_semantics_spec.specs.Configs.{Config}
use Rattle.pat_semantics_spec.specs.Orders.{IsOrdered}
use Rattle.pat_semantics_spec.specs.Runs.{Entry, entry_steps, entry_from, replay_from}
use Rattle.pat_machine_spec.specs.Refusals.{IsRefusedAt}
use Rattle.std.specs.declared.result.Result.TheVariants.{Err}
use Rattle.pat_reduce_values.specs.declared.error.StepError.{StepError}
use Rattle.pat_reduce_values.specs.declared.error.StepError.TheVariants.{Disabled, NoMemory}
use Rattle.pat_replay.specs.Replays.{HasTaken, HasRoom, EntryGives}
use Rattle.pat_replay.proofs.Entries.{room_on, room_taken, order_on}
use Rattle.pat_reduce.specs.declared.history.Entry.{Entry as CodeEntry}
use Rattle.pat_reduce.specs.Views.{entry_view}

-- whether what is left is refused where the whole is
abbrev pub RefusesOn : Program → Config → Config → List Entry → List Entry → ℕ → Type 0
RefusesOn p b c whole rest i = (k : ℕ) → IsRefusedAt p c rest k → IsRefusedAt p b whole (i + k)

-- numbers are left for the entries that are left
abbrev pub RoomLeft : Config → (all i : ℕ) → Type 0
RoomLeft c all i = (n : ℕ) → i + n ≡ all → HasRoom c n

-- so one is left where an entry is
pub room_here : (c : Config) (all i : ℕ) → i < all → RoomLeft c all i → HasTaken c 4294967294
room_here c all i within left = room_taken c (all - suc i) (left (suc (all - suc i)) (omega (arith, within)))

module _ (p : Program) (b c : Config) (entries : List CodeEntry) (i : ℕ) (nothing : CodeEntry) (within : i < length entries) where
  abbrev e : CodeEntry
  e = get_or entries i nothing

  abbrev rest : List Entry
  rest = map entry_view (drop (i + 1) entries)

  front : map entry_view (drop i entries) ≡ entry_view e ∷ rest
  front = ap (map entry_view) (drop_more entries i nothing within)

  -- an entry that leads nowhere is refused at its place
  refused_here : entry_from p c (entry_steps (entry_view e)) ≡ None → RefusesOn p b c (map entry_view entries) (map entry_view (drop i entries)) i → IsRefusedAt p b (map entry_view entries) i
  refused_here none h =
      let place : i + 0 ≡ i = omega arith in
      subst (IsRefusedAt p b (map entry_view entries)) place (h 0 (subst (λ l. IsRefusedAt p c l 0) (sym front) none))

  pub refused_so : (d : Config) (r : StepError) → EntryGives p c (entry_view e) d (Err r) → r ≡ Disabled → RefusesOn p b c (map entry_view entries) (map entry_view (drop i entries)) i → IsRefusedAt p b (map entry_view entries) i
  refused_so d Disabled h is on = refused_here h on
  refused_so d NoMemory h is on = cc

  module _ (d : Config) (leads : entry_from p c (entry_steps (entry_view e)) ≡ Some d) where
    -- an entry that leads on leaves what is left
    pub replay_on : (o : Option Config) → replay_from p c (map entry_view (drop i entries)) ≡ o → replay_from p d rest ≡ o
    replay_on o h = sym (ap (replay_from p c) front ∙ ap (option_and_then (λ x. replay_from p x rest)) leads) ∙ h

    pub refuses_on : RefusesOn p b c (map entry_view entries) (map entry_view (drop i entries)) i → RefusesOn p b d (map entry_view entries) rest (i + 1)
    refuses_on h k r =
        let place : i + suc k ≡ i + 1 + k = omega arith in
        subst (IsRefusedAt p b (map entry_view entries)) place (h (suc k) (subst (λ l. IsRefusedAt p c l (suc k)) (sym front) (d, leads, r)))

    pub room_next : RoomLeft c (length entries) i → RoomLeft d (length entries) (i + 1)
    room_next left n is = room_on p c d (entry_view e) n leads (left (suc n) (omega (arith, is)))

    pub order_next : IsOrdered c → IsOrdered d
    order_next ordered = order_on p c d (entry_view e) ordered leads
