-- A frame on top of those of the last thread.
use Rattle.std.proofs.Common.{◌≡◌, ℕ, List, [], ◌∷◌, ◌++◌, map, refl, sym, ap, ◌∙◌, subst}
use Rattle.std.specs.Prelude.{Option, Some, None, Result, Ok, Err, option_map}
use Rattle.std.proofs.lemmas.List.{map_push}
use Rattle.pat_semantics_spec.specs.Configs as configs
use Rattle.pat_inclusion_spec.specs.Certificates as certificates
use Rattle.pat_reduce.specs.declared.threads.state.ThreadState.{ThreadState}
use Rattle.pat_reduce.specs.threads.ThreadViews.{thread_view}
use Rattle.pat_reduce.specs.Views.{threads_view}
use Rattle.pat_checkpoint_data.specs.Parts.{PartCerts}
use Rattle.pat_checkpoint_data.specs.declared.data.Checkpoint.{Checkpoint}
use Rattle.pat_checkpoint_data.specs.Views.{part_certs_view}
use Rattle.pat_checkpoint_spec.specs.Checkpoints as checkpoints
use Rattle.pat_checkpoint_spec.specs.text.Lines as lines
use Rattle.pat_checkpoint_spec.specs.text.Lines.{Lines, thread_of, certs_of}
use Rattle.pat_checkpoint_spec.specs.text.LineReading as reading
use Rattle.pat_checkpoint_spec.specs.text.LineReading.{framed}
use Rattle.pat_derivation_lines.specs.declared.patterns.unread.Unread.{Unread}
use Rattle.pat_derivation_lines.specs.declared.patterns.unread.Unread.TheVariants.{NotSpelled, NoMemory}
use Rattle.pat_checkpoint_text.specs.declared.threads.FrameLine.{FrameLine}
use Rattle.pat_checkpoint_text.specs.Views.{frame_view}
use Rattle.pat_checkpoint_text.specs.Gathered.{Gathers, Grows, LastTurned, Turns, with_frame, with_cert}

-- ---- lists with a last item

-- all but the last, and the last
record Ended {A : Type 0} (xs : List A) : Type 0 where
  front : List A
  last : A
  is : xs ≡ front ++ last ∷ []

abbrev first_of : {A : Type 0} → A → List A → A
first_of d [] = d
first_of d (x ∷ xs) = x

abbrev others_of : {A : Type 0} → List A → List A
others_of [] = []
others_of (x ∷ xs) = xs

not_empty : {A : Type 0} (xs : List A) (x : A) → [] ≡ xs ++ x ∷ [] → ⊥
not_empty [] x e = absurd cc
not_empty (y ∷ xs) x e = absurd cc

same_end : {A : Type 0} (xs ys : List A) (x y : A) → xs ++ x ∷ [] ≡ ys ++ y ∷ [] → (xs ≡ ys) × (x ≡ y)
same_end [] [] x y e = (refl, ap (first_of x) e)
same_end [] (z ∷ ys) x y e = absurd (not_empty ys y (ap others_of e))
same_end (z ∷ xs) [] x y e = absurd (not_empty xs x (sym (ap others_of e)))
same_end (w ∷ xs) (z ∷ ys) x y e =
    let more = same_end xs ys x y (ap others_of e) in
    (ap (λ v. v ∷ xs) (ap (first_of w) e) ∙ ap (λ l. z ∷ l) more.0, more.1)

ended : {A : Type 0} (x : A) (xs : List A) → Ended (x ∷ xs)
ended x [] = record { front = []; last = x; is = refl }
ended x (y ∷ xs) =
    let more = ended y xs in
    record { front = x ∷ more.front; last = more.last; is = ap (λ l. x ∷ l) more.is }

-- what a list with a last item is made of has one
ends : {A B : Type 0} (f : A → B) (xs : List A) (ys : List B) (y : B) → map f xs ≡ ys ++ y ∷ [] → Ended xs
ends f [] ys y e = absurd (not_empty ys y e)
ends f (x ∷ xs) ys y e = ended x xs

-- ---- frames

framed_last : (ts : List lines.ThreadLine) (t : lines.ThreadLine) (f : lines.FrameLine) → framed (ts ++ t ∷ []) f ≡ Some (ts ++ record t { frames = f ∷ t.frames } ∷ [])
framed_last [] t f = refl
framed_last (u ∷ []) t f = refl
framed_last (u ∷ v ∷ ts) t f = ap (option_map (λ us. u ∷ us)) (framed_last (v ∷ ts) t f)

abbrev framed_by : configs.Frame → ℕ × configs.Thread → ℕ × configs.Thread
framed_by f e = (e.0, record { control = e.1.control; frames = f ∷ e.1.frames })

abbrev certified_by : Option certificates.Cert → checkpoints.PartCerts → checkpoints.PartCerts
certified_by k e = record { control = e.control; frames = k ∷ e.frames }

module _ (x : Lines) (c : Checkpoint) (g : Gathers x c) where
  -- no thread, no frame
  pub no_thread : (f : lines.FrameLine) → c.config.threads ≡ [] → reading.add_frame x f ≡ None
  no_thread f none = by x.threads (g.threads ∙ ap threads_view none)
    where
      by : (ts : List lines.ThreadLine) → map thread_of ts ≡ [] → option_map (λ us. record x { threads = us }) (framed ts f) ≡ None
      by [] e = refl
      by (t ∷ ts) e = absurd cc

  pub no_certs : (f : lines.FrameLine) → c.part_certs ≡ [] → reading.add_frame x f ≡ None
  no_certs f none = by x.threads (g.part_certs ∙ ap (map part_certs_view) none)
    where
      by : (ts : List lines.ThreadLine) → map certs_of ts ≡ [] → option_map (λ us. record x { threads = us }) (framed ts f) ≡ None
      by [] e = refl
      by (t ∷ ts) e = absurd cc

  pub frame_gathered : (line : FrameLine) (threads : List (ℕ × ThreadState)) (certs : List PartCerts) → LastTurned (with_frame line.frame) c.config.threads threads → LastTurned (with_cert line.cert) c.part_certs certs → (y : Lines) × (reading.add_frame x (frame_view line) ≡ Some y) × Gathers y (record c { config = record c.config { threads = threads }; part_certs = certs })
  frame_gathered line threads certs t k =
      let f = frame_view line in
      let view : ℕ × ThreadState → ℕ × configs.Thread = λ e. (e.0, thread_view e.1) in
      let all : map thread_of x.threads ≡ map view t.front ++ view t.last ∷ [] = g.threads ∙ ap threads_view t.was ∙ map_push view t.front t.last in
      let each : map certs_of x.threads ≡ map part_certs_view k.front ++ part_certs_view k.last ∷ [] = g.part_certs ∙ ap (map part_certs_view) k.was ∙ map_push part_certs_view k.front k.last in
      let w = ends thread_of x.threads (map view t.front) (view t.last) all in
      let top : lines.ThreadLine = record w.last { frames = f ∷ w.last.frames } in
      let own = same_end (map thread_of w.front) (map view t.front) (thread_of w.last) (view t.last) (sym (map_push thread_of w.front w.last) ∙ ap (map thread_of) (sym w.is) ∙ all) in
      let kept = same_end (map certs_of w.front) (map part_certs_view k.front) (certs_of w.last) (part_certs_view k.last) (sym (map_push certs_of w.front w.last) ∙ ap (map certs_of) (sym w.is) ∙ each) in (
        record x { threads = w.front ++ top ∷ [] },
        ap (λ us. option_map (λ vs. record x { threads = vs }) (framed us f)) w.is ∙ ap (option_map (λ vs. record x { threads = vs })) (framed_last w.front w.last f),
        record {
          next_thread = g.next_thread;
          next_mailbox = g.next_mailbox;
          next_message = g.next_message;
          live = g.live;
          interfaces = g.interfaces;
          mailbox_certs = g.mailbox_certs;
          messages = g.messages;
          threads =
              map_push thread_of w.front top ∙ ap (λ us. us ++ thread_of top ∷ []) own.0
              ∙ ap (λ e. map view t.front ++ framed_by f.frame e ∷ []) own.1
              ∙ sym (map_push view t.front (with_frame line.frame t.last))
              ∙ ap (map view) (sym t.is);
          part_certs =
              map_push certs_of w.front top ∙ ap (λ us. us ++ certs_of top ∷ []) kept.0
              ∙ ap (λ e. map part_certs_view k.front ++ certified_by f.cert e ∷ []) kept.1
              ∙ sym (map_push part_certs_view k.front (with_cert line.cert k.last))
              ∙ ap (map part_certs_view) (sym k.is);
          silent = g.silent;
          ascends = g.ascends;
        },
      )

  -- where the frames were put on top, and then the certificate is
  pub frame_put : {B : Type 0} (line : FrameLine) (threads : List (ℕ × ThreadState)) (certs : List PartCerts) (res : Result B Unread) → LastTurned (with_frame line.frame) c.config.threads threads → Turns (with_cert line.cert) c.part_certs certs res → Grows (reading.add_frame x (frame_view line)) (record c { config = record c.config { threads = threads }; part_certs = certs }) res
  frame_put line threads certs (Ok u) t k = frame_gathered line threads certs t k
  frame_put line threads certs (Err NotSpelled) t k = no_certs (frame_view line) k
  frame_put line threads certs (Err NoMemory) t k = tt

  -- where none is
  pub frame_exits : {B X : Type 0} (was : Result B Unread) (line : FrameLine) (threads : List (ℕ × ThreadState)) (own : Checkpoint) (res : Result X Unread) (given e : Unread) → res ≡ Err given → given ≡ e → Turns {B = B} (with_frame line.frame) c.config.threads threads (Err e) → Grows (reading.add_frame x (frame_view line)) own res
  frame_exits {B = B} {X = X} was line threads own res given e r s h = subst (Grows (reading.add_frame x (frame_view line)) own) (sym (r ∙ ap Err s)) (go e h)
    where
      go : (e : Unread) → Turns {B = B} (with_frame line.frame) c.config.threads threads (Err e) → Grows {A = X} (reading.add_frame x (frame_view line)) own (Err e)
      go NotSpelled h = no_thread (frame_view line) h
      go NoMemory h = tt
