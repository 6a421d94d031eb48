-- One receiver is one in whatever order holdings stand.
use Rattle.std.proofs.Common.{◌≡◌, ℕ, List, [], ◌∷◌, ◌++◌, map, refl, sym, ap, ap₂, ◌∙◌, subst, reverse, append_assoc}
use Rattle.std.proofs.lemmas.Grind.{reverse_onto}
use Rattle.pat_semantics_spec.specs.Programs.{Program}
use Rattle.pat_semantics_spec.specs.Patterns.{Pat}
use Rattle.pat_semantics_spec.specs.Configs.{Thread, Config}
use Rattle.pat_semantics_laws.proofs.Lists.{nil_parts, only_first, nil_right}
use Rattle.pat_type_system_spec.specs.Typings.{Typing}
use Rattle.pat_type_system_spec.specs.Holdings.{Holding, control_held, frame_held, thread_held, threads_held, message_held, holdings, receives, receivers}
use Rattle.pat_checkpoint_spec.specs.HoldingsInOrder.{thread_lines_held, threads_lines_held, lines_held}

receivers-append : (hs ks : List Holding) → receivers (hs ++ ks) ≡ receivers hs ++ receivers ks
receivers-append [] ks = refl
receivers-append (h ∷ hs) ks = ap (λ l. receives h ++ l) (receivers-append hs ks) ∙ sym (append_assoc (receives h) (receivers hs) (receivers ks))

-- where the one list has no element so has the other, and where the one has one alone so has the other
pub record Alike (xs ys : List Pat) : Type 0 where
  pub none : xs ≡ [] → ys ≡ []
  pub single : (e : Pat) → xs ≡ e ∷ [] → ys ≡ e ∷ []

alike_self : (xs : List Pat) → Alike xs xs
alike_self xs = record { none = λ h. h; single = λ e h. h }

alike_then : (xs ys zs : List Pat) → Alike xs ys → Alike ys zs → Alike xs zs
alike_then xs ys zs a b = record { none = λ h. b.none (a.none h); single = λ e h. b.single e (a.single e h) }

-- joined lists
alike_join : (xs xs' ys ys' : List Pat) → Alike xs xs' → Alike ys ys' → Alike (xs ++ ys) (xs' ++ ys')
alike_join xs xs' ys ys' a b = record {
  none = λ h. let q = nil_parts xs ys h in ap₂ (λ l m. l ++ m) (a.none q.0) (b.none q.1);
  single = λ e h. go e xs a h;
}
  where
    go : (e : Pat) (zs : List Pat) → Alike zs xs' → zs ++ ys ≡ e ∷ [] → xs' ++ ys' ≡ e ∷ []
    go e [] k h = ap₂ (λ l m. l ++ m) (k.none refl) (b.single e h)
    go e (z ∷ zs) k h =
        let o = only_first z e (zs ++ ys) h in
        let q = nil_parts zs ys o.1 in
        ap₂ (λ l m. l ++ m) (k.single e (ap₂ (λ u l. u ∷ l) o.0 q.0)) (b.none q.1)

-- the other way round
alike_swap : (xs ys : List Pat) → Alike (xs ++ ys) (ys ++ xs)
alike_swap xs ys = record {
  none = λ h. let q = nil_parts xs ys h in ap₂ (λ l m. l ++ m) q.1 q.0;
  single = λ e h. go e xs h;
}
  where
    go : (e : Pat) (zs : List Pat) → zs ++ ys ≡ e ∷ [] → ys ++ zs ≡ e ∷ []
    go e [] h = nil_right ys ∙ h
    go e (z ∷ zs) h =
        let o = only_first z e (zs ++ ys) h in
        let q = nil_parts zs ys o.1 in
        ap₂ (λ l m. l ++ m) q.1 (ap₂ (λ u l. u ∷ l) o.0 q.0)

-- ---- holdings

receivers_reverse : (hs : List Holding) → Alike (receivers hs) (receivers (reverse hs)) × Alike (receivers (reverse hs)) (receivers hs)
receivers_reverse [] = (alike_self [], alike_self [])
receivers_reverse (h ∷ hs) =
    let r = receivers_reverse hs in
    let is : receivers (reverse (h ∷ hs)) ≡ receivers (reverse hs) ++ (receives h ++ []) =
    ap receivers (reverse_onto hs h []) ∙ receivers-append (reverse hs) (h ∷ []) in
    let end : receives h ++ [] ≡ receives h = nil_right (receives h) in
    let whole = is ∙ ap (λ l. receivers (reverse hs) ++ l) end in (
      subst (Alike (receives h ++ receivers hs)) (sym whole)
          (alike_then (receives h ++ receivers hs) (receives h ++ receivers (reverse hs)) (receivers (reverse hs) ++ receives h)
          (alike_join (receives h) (receives h) (receivers hs) (receivers (reverse hs)) (alike_self (receives h)) r.0)
          (alike_swap (receives h) (receivers (reverse hs)))),
      subst (λ l. Alike l (receives h ++ receivers hs)) (sym whole)
          (alike_then (receivers (reverse hs) ++ receives h) (receives h ++ receivers (reverse hs)) (receives h ++ receivers hs)
          (alike_swap (receivers (reverse hs)) (receives h))
          (alike_join (receives h) (receives h) (receivers (reverse hs)) (receivers hs) (alike_self (receives h)) r.1)),
    )

module _ (p : Program) (y : Typing) (b : ℕ) where
  thread_alike : (t : Thread) → Alike (receivers (thread_held p y b t)) (receivers (thread_lines_held p y b t)) × Alike (receivers (thread_lines_held p y b t)) (receivers (thread_held p y b t))
  thread_alike t =
      let hs = map (frame_held y b) t.frames in
      let r = receivers_reverse hs in
      let c = receives (control_held p y b t.control t.frames) in
      (alike_join c c (receivers hs) (receivers (reverse hs)) (alike_self c) r.0, alike_join c c (receivers (reverse hs)) (receivers hs) (alike_self c) r.1)

  threads_alike : (ts : List (ℕ × Thread)) → Alike (receivers (threads_held p y b ts)) (receivers (threads_lines_held p y b ts)) × Alike (receivers (threads_lines_held p y b ts)) (receivers (threads_held p y b ts))
  threads_alike [] = (alike_self [], alike_self [])
  threads_alike (e ∷ es) =
      let r = threads_alike es in
      let t = thread_alike e.1 in
      let a = receivers-append (thread_held p y b e.1) (threads_held p y b es) in
      let l = receivers-append (thread_lines_held p y b e.1) (threads_lines_held p y b es) in
      let rt = receivers (thread_held p y b e.1) in
      let rl = receivers (thread_lines_held p y b e.1) in
      let rts = receivers (threads_held p y b es) in
      let rls = receivers (threads_lines_held p y b es) in (
        subst (λ k. Alike k (receivers (threads_lines_held p y b (e ∷ es)))) (sym a) (subst (Alike (rt ++ rts)) (sym l) (alike_join rt rl rts rls t.0 r.0)),
        subst (λ k. Alike k (receivers (threads_held p y b (e ∷ es)))) (sym l) (subst (Alike (rl ++ rls)) (sym a) (alike_join rl rt rls rts t.1 r.1)),
      )

module _ (p : Program) (y : Typing) (interfaces : ℕ → ℕ) (c : Config) (a : ℕ) where
  abbrev ms : List Holding
  ms = map (message_held p interfaces a) c.messages

  abbrev ts : List Holding
  ts = threads_held p y a c.threads

  abbrev ls : List Holding
  ls = threads_lines_held p y a c.threads

  pub single_lines : (e : Pat) → receivers (holdings p y interfaces c a) ≡ e ∷ [] → receivers (lines_held p y interfaces c a) ≡ e ∷ []
  single_lines e h =
      receivers-append ms ls
      ∙ (alike_then (receivers ts ++ receivers ms) (receivers ls ++ receivers ms) (receivers ms ++ receivers ls)
      (alike_join (receivers ts) (receivers ls) (receivers ms) (receivers ms) (threads_alike p y a c.threads).0 (alike_self (receivers ms)))
      (alike_swap (receivers ls) (receivers ms))).single e (sym (receivers-append ts ms) ∙ h)

  pub single_held : (e : Pat) → receivers (lines_held p y interfaces c a) ≡ e ∷ [] → receivers (holdings p y interfaces c a) ≡ e ∷ []
  single_held e h =
      receivers-append ts ms
      ∙ (alike_then (receivers ms ++ receivers ls) (receivers ls ++ receivers ms) (receivers ts ++ receivers ms)
      (alike_swap (receivers ms) (receivers ls))
      (alike_join (receivers ls) (receivers ts) (receivers ms) (receivers ms) (threads_alike p y a c.threads).1 (alike_self (receivers ms)))).single e (sym (receivers-append ms ls) ∙ h)
