-- A returned value goes to the frame on top, and a configuration stays typed.
use Rattle.std.proofs.Common.{◌≡◌, ℕ, true, false, nat_eq, if◌then◌else◌, List, [], ◌∷◌, ◌++◌, Option, Some, None, refl, sym, ap, ◌∙◌, subst, map, ⊎_elim}
use Rattle.std.proofs.lemmas.Bool.{or_cases, or_left, or_right, or_parts, eq-eqb, cases_Bool, cond-true, cond-false, false_from_ne_true}
use Rattle.pat_words_spec.specs.Words.{Word}
use Rattle.pat_semantics_spec.specs.Values.{Value, Mailbox, Kind, Env, value_at, ValueFits}
use Rattle.pat_semantics_spec.specs.Programs.{Program, Core, Let, core_at, is_free, keep, is_among, option_list, KindAt}
use Rattle.pat_semantics_spec.specs.WellFormed.{WellFormed, HasKind}
use Rattle.pat_semantics_spec.specs.Configs.{Returned, Frame, Thread, Config, thread_at, with_thread, is_mailbox, env_refers, thread_refers, pending}
use Rattle.pat_semantics_spec.specs.Steps.{thread_of, resume, bind_name}
use Rattle.pat_type_system_spec.specs.Types.{Returnable, TypeOf, BaseTerm, MailboxTerm, kind_of_type, mailbox_type, PassesTo}
use Rattle.pat_type_system_spec.specs.Typings.{Typing, IsTyping, NamePasses, name_type}
use Rattle.pat_type_system_spec.specs.Holdings.{Holding, held, as_holding, type_at, control_held, frame_held, message_held, wanted, holdings, Balanced}
use Rattle.pat_type_system_spec.specs.Typed.{IsTyped, ThreadFits, PartFits, IsFrameOfLet, KeepsFrom, frames_refer}
use Rattle.pat_safety_laws.proofs.Balance.{refine_balance, passes_refine, drop_second, drop_first}
use Rattle.pat_semantics_laws.proofs.Threads.{lookup_all}
use Rattle.pat_safety_laws.proofs.ThreadHoldings.{split_thread}
use Rattle.pat_safety_laws.proofs.Replace.{replace_keeps}
use Rattle.pat_type_system_laws.proofs.Nodes.{NodeFacts, node_facts, part_core}
use Rattle.pat_safety_laws.proofs.Refers.{is_mailbox_same, name_is, held_none, value_refers}
use Rattle.pat_safety_laws.proofs.Envs.{value_at-keep, kept, held_cases, HeldCases, by_variable, by_none}
use Rattle.pat_semantics_laws.proofs.Ascending.{ascends_filter}
use Rattle.pat_type_system_laws.proofs.Named.{part_kind}
use Rattle.pat_type_system_laws.proofs.Unused.{unused_drops}
use Rattle.pat_safety_laws.proofs.Narrow.{refers_value}
use Rattle.pat_safety_laws.proofs.Bound.{body_bound, body_among}
use Rattle.pat_safety_laws.proofs.Frames.{two_to_one, bind_name_at, only_name, name_here, name_kind}
use Rattle.pat_semantics_laws.proofs.Ascending.{ascends_name}
use Rattle.pat_semantics_laws.proofs.Lists.{clash}
use Rattle.pat_type_system_laws.proofs.Passing.{passes_drop, name_passes}
use Rattle.pat_semantics_spec.specs.Orders.{AscendsFrom}
use Rattle.std.specs.Map.{keys_of}

-- what a thread returns, as it is wanted
module _ (p : Program) (y : Typing) (interfaces : ℕ → ℕ) (v : Value) (f : Frame) (fs : List Frame) (wf : WellFormed p) (typing : IsTyping p y) (fits : ThreadFits p y interfaces (thread_of (Returned v) (f ∷ fs))) where
  abbrev before : Thread
  before = thread_of (Returned v) (f ∷ fs)

  abbrev x : Option ℕ
  x = f.var

  abbrev b : ℕ
  b = f.body

  abbrev of : IsFrameOfLet p f
  of = fits.frames.0

  abbrev m : ℕ
  m = fits.frames.0.1

  abbrev core : Core
  core = Let f.var fits.frames.0.1 f.body

  abbrev n : ℕ
  n = fits.frames.0.0

  part : PartFits p interfaces f.body (option_list f.var) f.env
  part = fits.frames.1

  facts : NodeFacts p y n core
  facts = node_facts p y n core wf typing fits.frames.0.2

  bound_facts : (k : Core) × (core_at p m ≡ Some k)
  bound_facts = part_core p n core wf fits.frames.0.2 m (or_left (nat_eq m m) (is_among m (b ∷ [])) (eq-eqb m m refl))

  body : (k : Core) × (core_at p b ≡ Some k)
  body = part_core p n core wf fits.frames.0.2 b (body_among x m b)

  abbrev all : Env
  all = bind_name f.env f.var v

  abbrev env' : Env
  env' = keep p f.body all

  abbrev after : Thread
  after = resume p f fs v

  abbrev t : TypeOf
  t = y.results m

  want : wanted p y (f ∷ fs) ≡ t
  want = ap (type_at y) (body_bound p n m b x wf fits.frames.0.2)

  value_fits : ValueFits interfaces v (kind_of_type t)
  value_fits = subst (λ w. ValueFits interfaces v (kind_of_type w)) want fits.control

  name_term : NamePasses t (name_type x (y.envs b))
  name_term = facts.term.2

  -- the returned mailbox isn't in the frames
  returned_apart : (a : ℕ) → v ≡ Mailbox a → frames_refer a (f ∷ fs) ≡ false
  returned_apart a same = go t refl (subst (λ w. ValueFits interfaces w (kind_of_type t)) same value_fits)
    where
      go : (w : TypeOf) → t ≡ w → ValueFits interfaces (Mailbox a) (kind_of_type t) → frames_refer a (f ∷ fs) ≡ false
      go (BaseTerm c) e h = absurd (subst (λ k. ValueFits interfaces (Mailbox a) (kind_of_type k)) e h)
      go (MailboxTerm i q g) e h =
          fits.control_keeps a (mailbox_type i q g Returnable)
          (cond-true (is_mailbox a v) (as_holding (wanted p y (f ∷ fs))) None (ap (is_mailbox a) same ∙ name_is a) ∙ ap as_holding (want ∙ e))
          refl

  env_apart : (a : ℕ) → v ≡ Mailbox a → env_refers a f.env ≡ false
  env_apart a same = (or_parts (env_refers a f.env) (frames_refer a fs) (returned_apart a same)).0

  not_in_env : (a z : ℕ) → v ≡ Mailbox a → value_at f.env z ≡ Some (Mailbox a) → ⊥
  not_in_env a z same at = clash (value_refers f.env z a at) (env_apart a same)

  -- where a value that is kept comes from
  data From (z : ℕ) (w : Value) : Type 0 where
    of_name : is_free p z f.body ≡ true → is_among z (option_list f.var) ≡ true → v ≡ w → From z w
    of_env : is_free p z f.body ≡ true → is_among z (option_list f.var) ≡ false → value_at f.env z ≡ Some w → From z w

  comes_from : (z : ℕ) (w : Value) → value_at env' z ≡ Some w → From z w
  comes_from z w at =
      let k = kept p f.body all z w at in
      (elim (is_among z (option_list f.var)) as (λ t. is_among z (option_list f.var) ≡ t → (if t then Some v else value_at f.env z) ≡ Some w → From z w) [
        | true ↦ λ q e. of_name k.0 q cc
        | false ↦ λ q e. of_env k.0 q e
      ]) refl (sym (bind_name_at f.env f.var v z) ∙ k.1)

  put : (z : ℕ) (w : Value) → is_free p z f.body ≡ true → (if is_among z (option_list f.var) then Some v else value_at f.env z) ≡ Some w → value_at env' z ≡ Some w
  put z w free at =
      value_at-keep p f.body all z ∙ cond-true (is_free p z f.body) (value_at all z) None free ∙ bind_name_at f.env f.var v z ∙ at

  put_name : (z : ℕ) → is_free p z f.body ≡ true → is_among z (option_list f.var) ≡ true → value_at env' z ≡ Some v
  put_name z free among = put z v free (cond-true (is_among z (option_list f.var)) (Some v) (value_at f.env z) among)

  put_env : (z : ℕ) (w : Value) → value_at f.env z ≡ Some w → value_at env' z ≡ Some w
  put_env z w at =
      let h = part.free z w at in
      put z w h.0 (cond-false (is_among z (option_list f.var)) (Some v) (value_at f.env z) h.1 ∙ at)

  kind_fits : (j : Kind) → HasKind p m j → ValueFits interfaces v j
  kind_fits j has =
      let typed = (typing.nodes m has.0 has.1).kind in
      subst (λ k. ValueFits interfaces v k) (typed ∙ has.2) value_fits

  new_kinds : (z : ℕ) (w : Value) → From z w → (k : Kind) × KindAt p f.body z k × ValueFits interfaces w k
  new_kinds z w (of_name free among is) =
      let j = name_kind p facts.fits.function.vars (kind_of_type (y.results n)) x m b z facts.kinds among in (
        j.0,
        part_kind p n z j.0 core wf fits.frames.0.2 b (body_among x m b) (facts.node, facts.fits.function, facts.there, facts.fits.of, j.1),
        subst (λ u. ValueFits interfaces u j.0) is (kind_fits j.0 j.2),
      )
  new_kinds z w (of_env free out at) = part.kinds z w at

  new_different : (z u a : ℕ) → From z (Mailbox a) → From u (Mailbox a) → z ≡ u
  new_different z u a (of_name f1 among1 is1) (of_name f2 among2 is2) = only_name x z u among1 among2
  new_different z u a (of_name f1 among1 is1) (of_env f2 out2 at2) = absurd (not_in_env a u is1 at2)
  new_different z u a (of_env f1 out1 at1) (of_name f2 among2 is2) = absurd (not_in_env a z is2 at1)
  new_different z u a (of_env f1 out1 at1) (of_env f2 out2 at2) = part.different z u a at1 at2

  keys' : AscendsFrom 0 (keys_of env')
  keys' = ascends_filter (λ (e : ℕ × Value). e.0) (λ e. is_free p e.0 f.body) 0 all (ascends_name f.env f.var v part.keys)

  new_part : PartFits p interfaces f.body [] env'
  new_part = record {
    there = body;
    keys = keys';
    values = λ z free out.
        (elim (is_among z (option_list f.var)) as (λ t. is_among z (option_list f.var) ≡ t → (w : Value) × (value_at env' z ≡ Some w)) [
          | true ↦ λ q. (v, put_name z free q)
          | false ↦ λ q. let h = part.values z free q in (h.0, put_env z h.0 h.1)
        ]) refl;
    free = λ z w at. ((kept p f.body all z w at).0, refl);
    kinds = λ z w at. new_kinds z w (comes_from z w at);
    different = λ z u a at at'. new_different z u a (comes_from z (Mailbox a) at) (comes_from u (Mailbox a) at');
  }

  -- ---- holdings

  abbrev old : ℕ → Holding
  old a = held (y.envs f.body) a f.env

  abbrev new : ℕ → Holding
  new a = held (y.envs f.body) a env'

  -- another mailbox than the returned one is held as before
  same_held : (a : ℕ) → is_mailbox a v ≡ false → new a ≡ old a
  same_held a off = go (held_cases (y.envs f.body) a 0 f.env part.keys) (held_cases (y.envs f.body) a 0 env' keys')
    where
      env_of : (z : ℕ) → From z (Mailbox a) → value_at f.env z ≡ Some (Mailbox a)
      env_of z (of_name free among is) = absurd (clash (ap (is_mailbox a) is ∙ name_is a) off)
      env_of z (of_env free out at) = at

      go : HeldCases (y.envs f.body) a f.env → HeldCases (y.envs f.body) a env' → new a ≡ old a
      go (by_variable z at is) (by_variable z' at' is') =
          is' ∙ ap (y.envs f.body) (part.different z' z a (env_of z' (comes_from z' (Mailbox a) at')) at) ∙ sym is
      go (by_variable z at is) (by_none none is') = absurd (none z (put_env z (Mailbox a) at))
      go (by_none none is) (by_variable z' at' is') = absurd (none z' (env_of z' (comes_from z' (Mailbox a) at')))
      go (by_none none is) (by_none none' is') = is' ∙ sym is

  -- the returned one is held under the let's name, or dropped
  name_held : (a : ℕ) → v ≡ Mailbox a → PassesTo (as_holding t) (new a)
  name_held a same = go (held_cases (y.envs f.body) a 0 env' keys')
    where
      named : (z : ℕ) → From z (Mailbox a) → name_type x (y.envs b) ≡ y.envs b z
      named z (of_name free among is) = name_here x z (y.envs b) among
      named z (of_env free out at) = absurd (not_in_env a z same at)

      dropped : (o : Option ℕ) → x ≡ o → ((z : ℕ) → value_at env' z ≡ Some (Mailbox a) → ⊥) → PassesTo (as_holding t) None
      dropped None e none = subst (λ w. PassesTo (as_holding t) (name_type w (y.envs b))) e (name_passes t (name_type x (y.envs b)) name_term)
      dropped (Some z) e none =
          let among : is_among z (option_list x) ≡ true = ap (λ w. is_among z (option_list w)) e ∙ or_left (nat_eq z z) false (eq-eqb z z refl) in
          let off : is_free p z b ≡ false = false_from_ne_true (is_free p z b) (λ free. none z (put_name z free among ∙ ap (λ w. Some w) same)) in
          let passes = subst (λ w. PassesTo (as_holding t) w) (name_here x z (y.envs b) among) (name_passes t (name_type x (y.envs b)) name_term) in
          passes_drop (as_holding t) (y.envs b z) passes (unused_drops p y wf typing z b body.0 body.1 off)

      go : HeldCases (y.envs f.body) a env' → PassesTo (as_holding t) (new a)
      go (by_variable z at is) =
          subst (λ w. PassesTo (as_holding t) w) (sym (is ∙ sym (named z (comes_from z (Mailbox a) at)))) (name_passes t (name_type x (y.envs b)) name_term)
      go (by_none none is) = subst (λ w. PassesTo (as_holding t) w) (sym is) (dropped x refl none)

  -- the control's and the frame's holdings give way to the new control's
  turn : (a : ℕ) (r : Word) (ks : List Holding) → Balanced (control_held p y a (Returned v) (f ∷ fs) ∷ old a ∷ ks) r → Balanced (new a ∷ ks) r
  turn a r ks bal =
      let ch = control_held p y a (Returned v) (f ∷ fs) in
      ⊎_elim
      (λ on.
      let same = is_mailbox_same a v on in
      let none : old a ≡ None = held_none (y.envs f.body) a f.env (env_apart a same) in
      let is : ch ≡ as_holding t = cond-true (is_mailbox a v) (as_holding (wanted p y (f ∷ fs))) None on ∙ ap as_holding want in
      let dropped = drop_second ch (old a) ks r (subst (λ w. PassesTo w None) (sym none) tt) bal in
      let passes = subst (λ w. PassesTo w (new a)) (sym is) (name_held a same) in
      refine_balance (ch ∷ []) (new a ∷ []) ks r r (passes_refine ch (new a) r passes) dropped)
      (λ off.
      let none : ch ≡ None = cond-false (is_mailbox a v) (as_holding (wanted p y (f ∷ fs))) None off in
      let dropped = drop_first ch (old a ∷ ks) r (subst (λ w. PassesTo w None) (sym none) tt) bal in
      subst (λ w. Balanced (w ∷ ks) r) (sym (same_held a off)) dropped)
      (cases_Bool (is_mailbox a v))

  new_keeps : KeepsFrom new fs
  new_keeps a k h u =
      ⊎_elim
      (λ on. (or_parts (env_refers a f.env) (frames_refer a fs) (returned_apart a (is_mailbox_same a v on))).1)
      (λ off. fits.frames_keep.0 a k (sym (same_held a off) ∙ h) u)
      (cases_Bool (is_mailbox a v))

  pub resumed_fits : ThreadFits p y interfaces after
  resumed_fits = record {
    control = (new_part, fits.frames.2);
    frames = fits.frames.3;
    control_keeps = new_keeps;
    frames_keep = fits.frames_keep.1;
  }

  pub resumed_refers : (a : ℕ) → thread_refers a after ≡ true → thread_refers a before ≡ true
  resumed_refers a h =
      ⊎_elim
      (λ l. let r = refers_value a 0 env' keys' l in go r.0 (comes_from r.0 (Mailbox a) r.1))
      (λ r. or_right (is_mailbox a v) (frames_refer a (f ∷ fs)) (or_right (env_refers a f.env) (frames_refer a fs) r))
      (or_cases (env_refers a env') (frames_refer a fs) h)
    where
      go : (z : ℕ) → From z (Mailbox a) → thread_refers a before ≡ true
      go z (of_name free among is) = or_left (is_mailbox a v) (frames_refer a (f ∷ fs)) (ap (is_mailbox a) is ∙ name_is a)
      go z (of_env free out at) = or_right (is_mailbox a v) (frames_refer a (f ∷ fs)) (or_left (env_refers a f.env) (frames_refer a fs) (value_refers f.env z a at))

  pub resumed_balanced : (c : Config) (t : ℕ) → thread_at c t ≡ Some before → (a : ℕ) → Balanced (holdings p y interfaces c a) (pending c a) → Balanced (holdings p y interfaces (with_thread c t after) a) (pending c a)
  resumed_balanced c t there a bal =
      let ms = map (message_held p interfaces a) c.messages in
      let split = split_thread p y a t before c.threads there in
      let old_list = subst (λ l. Balanced (l ++ ms) (pending c a)) split.now_is bal in
      let done = two_to_one split.before (map (frame_held y a) fs) split.after ms (control_held p y a (Returned v) (f ∷ fs)) (old a) (new a) (pending c a) (turn a (pending c a)) old_list in
      subst (λ l. Balanced (l ++ ms) (pending c a)) (sym (split.changed_is after)) done

-- the law for a value that goes to a frame
pub return_keeps : (p : Program) (y : Typing) (interfaces : ℕ → ℕ) (c : Config) (t : ℕ) (v : Value) (f : Frame) (fs : List Frame) → WellFormed p → (typed : IsTyped p y interfaces c) → thread_at c t ≡ Some (thread_of (Returned v) (f ∷ fs)) → IsTyped p y interfaces (with_thread c t (resume p f fs v))
return_keeps p y interfaces c t v f fs wf typed there =
    let s = thread_of (Returned v) (f ∷ fs) in
    let fits = lookup_all (λ s. ThreadFits p y interfaces s) c.threads t s typed.threads there in
    replace_keeps p y interfaces c t s (resume p f fs v) typed there
    (resumed_fits p y interfaces v f fs wf typed.typing fits)
    (resumed_refers p y interfaces v f fs wf typed.typing fits)
    (resumed_balanced p y interfaces v f fs wf typed.typing fits c t there)
