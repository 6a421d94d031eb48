-- A receive step keeps a configuration balanced.
use Rattle.std.proofs.Common.{◌≡◌, ℕ, false, nat_eq, List, ◌∷◌, ◌++◌, Option, Some, sym, ap, ◌∙◌, subst, map, ⊎_elim}
use Rattle.std.proofs.lemmas.Bool.{eqb-true, eqb-false, ne_eqb, cases_Bool}
use Rattle.pat_words_spec.specs.Words.{Word, one, plus}
use Rattle.pat_words_spec.specs.Patterns.{Pat}
use Rattle.pat_semantics_spec.specs.Values.{Env}
use Rattle.pat_semantics_spec.specs.Programs.{Program, Clause, tag_at}
use Rattle.pat_semantics_spec.specs.Configs.{Running, Thread, Message, Config, thread_at, with_thread, pending, pending_in}
use Rattle.pat_semantics_spec.specs.Steps.{at_node, received, thread_of, without_message}
use Rattle.pat_type_system_spec.specs.Typings.{Typing, payload_type}
use Rattle.pat_type_system_spec.specs.Holdings.{Holding, held, control_held, frame_held, payload_held, declared_types, message_held, holdings, Balanced}
use Rattle.pat_safety_laws.proofs.ThreadHoldings.{split_thread}
use Rattle.pat_safety_laws.proofs.Messages.{others, Taken, pending_own, pending_other, two_front, one_back}
use Rattle.pat_safety_laws.proofs.ReceiveHoldings.{Receipt, other_balanced, own_balanced}
use Rattle.pat_semantics_laws.proofs.Lists.{map-append}

-- the configuration after the receive
abbrev pub after_receive : Program → Config → ℕ → Thread → Env → Clause → Message → Config
after_receive p c t s env r m = with_thread (without_message c m.number) t (thread_of (at_node p r.body (received r m env)) s.frames)

module _ (p : Program) (y : Typing) (interfaces : ℕ → ℕ) (c : Config) (t : ℕ) (s : Thread) (n : ℕ) (env : Env) (x : ℕ) (e : Pat) (free : Option ℕ) (cs : List Clause) (r : Clause) (m : Message) (known : Receipt p y interfaces n env x e free cs r m) (declared : tag_at p (interfaces m.mailbox) m.tag ≡ Some known.clause.decl) (there : thread_at c t ≡ Some s) (at : s.control ≡ Running n env) (taken : Taken c.messages m) where
  -- each mailbox is balanced after it
  pub receive_balanced : (b : ℕ) → Balanced (holdings p y interfaces c b) (pending c b) → Balanced (holdings p y interfaces (after_receive p c t s env r m) b) (pending (after_receive p c t s env r m) b)
  receive_balanced b bal =
      let split = split_thread p y b t s c.threads there in
      let fs = map (frame_held y b) s.frames in
      let held_of = message_held p interfaces b in
      let mb = map held_of taken.before in
      let ma = map held_of taken.after in
      let o = held (y.envs n) b env in
      let h = payload_held b (payload_type known.clause.decl) 0 m.values in
      let new = thread_of (at_node p r.body (received r m env)) s.frames in
      let k = control_held p y b new.control s.frames in
      let rest = split.before ++ ((fs ++ split.after) ++ (mb ++ ma)) in
      let old_messages : map held_of c.messages ≡ mb ++ (h ∷ ma) =
      ap (map held_of) taken.all_is
      ∙ map-append held_of taken.before (m ∷ taken.after)
      ∙ ap (λ d. mb ++ (payload_held b (declared_types d) 0 m.values ∷ ma)) declared in
      let old_list : holdings p y interfaces c b ≡ (split.before ++ ((o ∷ fs) ++ split.after)) ++ (mb ++ (h ∷ ma)) =
      ap (λ l. l ++ map held_of c.messages) split.now_is
      ∙ ap (λ q. (split.before ++ ((control_held p y b q s.frames ∷ fs) ++ split.after)) ++ map held_of c.messages) at
      ∙ ap (λ l. (split.before ++ ((o ∷ fs) ++ split.after)) ++ l) old_messages in
      let new_messages : map held_of (others m.number c.messages) ≡ mb ++ ma =
      ap (map held_of) taken.others_is ∙ map-append held_of taken.before taken.after in
      let new_list : holdings p y interfaces (after_receive p c t s env r m) b ≡ (split.before ++ ((k ∷ fs) ++ split.after)) ++ (mb ++ ma) =
      ap (λ l. l ++ map held_of (others m.number c.messages)) (split.changed_is new)
      ∙ ap (λ l. (split.before ++ ((k ∷ fs) ++ split.after)) ++ l) new_messages in
      let front = two_front split.before fs split.after mb ma o h (pending c b) (subst (λ l. Balanced l (pending c b)) old_list bal) in
      let left = pending_in b (taken.before ++ taken.after) in
      let new_pending : pending (after_receive p c t s env r m) b ≡ left = ap (pending_in b) taken.others_is in
      let done : Balanced (k ∷ rest) left =
      ⊎_elim
      (λ own.
      let same : m.mailbox ≡ b = eqb-true m.mailbox b own in
      let was : pending c b ≡ plus (one m.tag) left = ap (pending_in b) taken.all_is ∙ pending_own b taken.before m taken.after own in
      let moved : Balanced (o ∷ h ∷ rest) (plus (one m.tag) left) = subst (λ w. Balanced (o ∷ h ∷ rest) w) was front in
      own_at b same rest left moved)
      (λ other.
      let off : nat_eq b m.mailbox ≡ false = ne_eqb b m.mailbox (λ q. eqb-false m.mailbox b other (sym q)) in
      let was : pending c b ≡ left = ap (pending_in b) taken.all_is ∙ pending_other b taken.before m taken.after other in
      other_balanced p y interfaces n env x e free cs r m known b rest left off (subst (λ w. Balanced (o ∷ h ∷ rest) w) was front))
      (cases_Bool (nat_eq m.mailbox b)) in
      let placed = one_back split.before fs split.after mb ma k left done in
      subst (λ w. Balanced (holdings p y interfaces (after_receive p c t s env r m) b) w) (sym new_pending) (subst (λ l. Balanced l left) (sym new_list) placed)
    where
      own_at : (b : ℕ) → m.mailbox ≡ b → (ks : List Holding) (w : Word) → Balanced (held (y.envs n) b env ∷ payload_held b (payload_type known.clause.decl) 0 m.values ∷ ks) (plus (one m.tag) w) → Balanced (control_held p y b (at_node p r.body (received r m env)) s.frames ∷ ks) w
      own_at b same ks w =
          subst (λ a. Balanced (held (y.envs n) a env ∷ payload_held a (payload_type known.clause.decl) 0 m.values ∷ ks) (plus (one m.tag) w) → Balanced (control_held p y a (at_node p r.body (received r m env)) s.frames ∷ ks) w) same (own_balanced p y interfaces n env x e free cs r m known ks w)
