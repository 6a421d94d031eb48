-- Checkpoints that are put together line by line.
use Rattle.std.proofs.Common.{◌≡◌, ℕ, ◌==◌, Bool, true, false, List, [], ◌∷◌, ◌++◌, length, map, refl, sym, ap, ◌∙◌, subst, arith}
use Rattle.std.specs.Prelude.{Option, Some, None, Result, Err, option_and_then, ◌&&◌, if◌then◌else◌}
use Rattle.std.proofs.lemmas.Bool.{ne_eqb}
use Rattle.std.proofs.lemmas.List.{length-map, map_push}
use Rattle.pat_semantics_spec.specs.Programs.{Program}
use Rattle.pat_semantics_spec.specs.Configs as configs
use Rattle.pat_reduce.specs.declared.threads.state.ThreadState.{ThreadState}
use Rattle.pat_reduce.specs.declared.threads.state.Message.{Message}
use Rattle.pat_reduce.specs.threads.ThreadViews.{thread_view, message_view}
use Rattle.pat_reduce.specs.Views.{threads_view}
use Rattle.pat_checkpoint_data.specs.Parts.{PartCerts}
use Rattle.pat_checkpoint_data.specs.declared.data.Checkpoint.{Checkpoint}
use Rattle.pat_checkpoint_data.specs.Views.{end_view, part_certs_view, checkpoint_view}
use Rattle.pat_texts_spec.proofs.Choices.{passed, skipped}
use Rattle.pat_checkpoint_spec.specs.text.Lines as lines
use Rattle.pat_checkpoint_spec.specs.text.Lines.{Lines, thread_of, certs_of, checkpoint_of}
use Rattle.pat_checkpoint_spec.specs.text.LineReading as reading
use Rattle.pat_checkpoint_spec.specs.text.LineReading.{is_next, is_none}
use Rattle.pat_derivation_lines.specs.declared.patterns.unread.Unread.{Unread}
use Rattle.pat_derivation_lines.specs.declared.patterns.unread.Unread.TheVariants.{NotSpelled, NoMemory}
use Rattle.pat_derivation_lines.specs.patterns.Answers.{Gives}
use Rattle.pat_checkpoint_text.specs.declared.mailboxes.MailboxLine.{MailboxLine}
use Rattle.pat_checkpoint_text.specs.declared.threads.ThreadLine.{ThreadLine}
use Rattle.pat_checkpoint_text.specs.Views as views
use Rattle.pat_checkpoint_text.specs.Gathered.{Gathers, Grows, with_mailbox, with_thread}
use Rattle.pat_checkpoint_text.proofs.Orders.{still_ascends}

-- what the lines make, once all are read
pub made : (x : Lines) (c : Checkpoint) → Gathers x c → checkpoint_of x ≡ checkpoint_view c
made x c g =
    let next_thread = g.next_thread in
    let next_mailbox = g.next_mailbox in
    let next_message = g.next_message in
    let live = g.live in
    let interfaces = g.interfaces in
    let mailbox_certs = g.mailbox_certs in
    let messages = g.messages in
    let threads = g.threads in
    let part_certs = g.part_certs in
    let silent = g.silent in
    cc

-- ---- which kinds there are so far

none_at : {A B : Type 0} (f : A → B) (xs : List A) (ys : List B) → map f xs ≡ ys → is_none xs ≡ (length ys == 0)
none_at f [] ys e = ap (λ l. length l == 0) e
none_at f (x ∷ xs) ys e = sym (ne_eqb (length ys) 0 (λ q. let l = ap length e in omega (arith, q, l)))

module _ (x : Lines) (c : Checkpoint) (g : Gathers x c) where
  pub no_messages : is_none x.messages ≡ (length c.config.messages == 0)
  no_messages = ap is_none g.messages ∙ same c.config.messages
    where
      same : (ms : List Message) → is_none (map message_view ms) ≡ (length ms == 0)
      same [] = refl
      same (m ∷ ms) = sym (ne_eqb (length (m ∷ ms)) 0 (λ q. omega (arith, q)))

  pub no_threads : is_none x.threads ≡ (length c.config.threads == 0)
  no_threads = none_at thread_of x.threads (threads_view c.config.threads) g.threads ∙ same c.config.threads
    where
      same : (ts : List (ℕ × ThreadState)) → (length (threads_view ts) == 0) ≡ (length ts == 0)
      same ts = ap (λ n. n == 0) (length-map ts (λ e. (e.0, thread_view e.1)))

  -- the numbers of those so far
  pub message_numbers : map (λ m. m.number) x.messages ≡ map (λ m. m.number) c.config.messages
  message_numbers = ap (map (λ (m : configs.Message). m.number)) g.messages ∙ same c.config.messages
    where
      same : (ms : List Message) → map (λ m. m.number) (map message_view ms) ≡ map (λ m. m.number) ms
      same [] = refl
      same (m ∷ ms) = ap (λ l. m.number ∷ l) (same ms)

  pub thread_numbers : map (λ t. t.number) x.threads ≡ map (λ e. e.0) c.config.threads
  thread_numbers = sym (own x.threads) ∙ ap (map (λ (e : ℕ × configs.Thread). e.0)) g.threads ∙ same c.config.threads
    where
      own : (ts : List lines.ThreadLine) → map (λ e. e.0) (map thread_of ts) ≡ map (λ t. t.number) ts
      own [] = refl
      own (t ∷ ts) = ap (λ l. t.number ∷ l) (own ts)

      same : (ts : List (ℕ × ThreadState)) → map (λ e. e.0) (threads_view ts) ≡ map (λ e. e.0) ts
      same [] = refl
      same (t ∷ ts) = ap (λ l. t.0 ∷ l) (same ts)

  -- ---- one more

  pub mailbox_gathered : (m : MailboxLine) → is_next c.config.live m.number ≡ true → Gathers (record x { mailboxes = x.mailboxes ++ views.mailbox_view m ∷ [] }) (with_mailbox c m)
  mailbox_gathered m h = record {
    next_thread = g.next_thread;
    next_mailbox = g.next_mailbox;
    next_message = g.next_message;
    live = map_push (λ (k : lines.MailboxLine). k.number) x.mailboxes (views.mailbox_view m) ∙ ap (λ l. l ++ m.number ∷ []) g.live;
    interfaces = map_push (λ (k : lines.MailboxLine). k.interface) x.mailboxes (views.mailbox_view m) ∙ ap (λ l. l ++ m.interface ∷ []) g.interfaces;
    mailbox_certs = map_push (λ (k : lines.MailboxLine). k.cert) x.mailboxes (views.mailbox_view m) ∙ ap (λ l. l ++ end_view m.cert ∷ []) g.mailbox_certs ∙ sym (map_push end_view c.mailbox_certs m.cert);
    messages = g.messages;
    threads = g.threads;
    part_certs = g.part_certs;
    silent = g.silent;
    ascends = still_ascends c.config.live m.number g.ascends h;
  }

  pub message_gathered : (m : Message) → Gathers (record x { messages = x.messages ++ message_view m ∷ [] }) (record c { config = record c.config { messages = c.config.messages ++ m ∷ [] } })
  message_gathered m = record {
    next_thread = g.next_thread;
    next_mailbox = g.next_mailbox;
    next_message = g.next_message;
    live = g.live;
    interfaces = g.interfaces;
    mailbox_certs = g.mailbox_certs;
    messages = ap (λ l. l ++ message_view m ∷ []) g.messages ∙ sym (map_push message_view c.config.messages m);
    threads = g.threads;
    part_certs = g.part_certs;
    silent = g.silent;
    ascends = g.ascends;
  }

  pub thread_gathered : (t : ThreadLine) → Gathers (record x { threads = x.threads ++ views.thread_view t ∷ [] }) (with_thread c t)
  thread_gathered t =
      let state : ThreadState = record { control = t.control; frames = [] } in
      let certs : PartCerts = record { control = t.cert; frames = [] } in
      record {
        next_thread = g.next_thread;
        next_mailbox = g.next_mailbox;
        next_message = g.next_message;
        live = g.live;
        interfaces = g.interfaces;
        mailbox_certs = g.mailbox_certs;
        messages = g.messages;
        threads = map_push thread_of x.threads (views.thread_view t) ∙ ap (λ l. l ++ (t.number, thread_view state) ∷ []) g.threads ∙ sym (map_push (λ (e : ℕ × ThreadState). (e.0, thread_view e.1)) c.config.threads (t.number, state));
        part_certs = map_push certs_of x.threads (views.thread_view t) ∙ ap (λ l. l ++ part_certs_view certs ∷ []) g.part_certs ∙ sym (map_push part_certs_view c.part_certs certs);
        silent = g.silent;
        ascends = g.ascends;
      }

-- ---- how a line is read

-- what isn't read of it makes it unread
pub exits : {A B X : Type 0} (view : A → B) (o : Option B) (whole : Option Lines) (c : Checkpoint) (res : Result X Unread) (given e : Unread) → res ≡ Err given → given ≡ e → (o ≡ None → whole ≡ None) → Gives view o (Err e) → Grows whole c res
exits {X = X} view o whole c res given e r s by h = subst (Grows whole c) (sym (r ∙ ap Err s)) (go e h)
  where
    go : (e : Unread) → Gives view o (Err e) → Grows {A = X} whole c (Err e)
    go NotSpelled h = by h
    go NoMemory h = tt

-- a line that isn't read
pub unspelled : {X : Type 0} (whole : Option Lines) (c : Checkpoint) (res : Result X Unread) (e : Unread) → res ≡ Err e → e ≡ NotSpelled → Grows whole c res → whole ≡ None
unspelled whole c res e r s h = subst (Grows whole c) (r ∙ ap Err s) h

-- or memory runs out
pub spent : {X : Type 0} (whole : Option Lines) (c : Checkpoint) (res : Result X Unread) (given : Unread) → res ≡ Err given → given ≡ NoMemory → Grows whole c res
spent whole c res given r s = subst (Grows whole c) (sym (r ∙ ap Err s)) tt

module _ (p : Program) (x : Lines) (text : List ℕ) where
  pub mailbox_read : (m : lines.MailboxLine) → is_none x.messages ≡ true → is_none x.threads ≡ true → reading.read_mailbox p text ≡ Some m → is_next (map (λ k. k.number) x.mailboxes) m.number ≡ true → reading.with_mailbox p x text ≡ Some (record x { mailboxes = x.mailboxes ++ m ∷ [] })
  mailbox_read m a b r h =
      passed (is_none x.messages && is_none x.threads) (option_and_then (reading.add_mailbox x) (reading.read_mailbox p text)) None (ap (λ t. t && is_none x.threads) a ∙ b)
      ∙ ap (option_and_then (reading.add_mailbox x)) r
      ∙ passed (is_next (map (λ k. k.number) x.mailboxes) m.number) (Some (record x { mailboxes = x.mailboxes ++ m ∷ [] })) None h

  pub behind_messages : is_none x.messages ≡ false → reading.with_mailbox p x text ≡ None
  behind_messages h = skipped (is_none x.messages && is_none x.threads) (option_and_then (reading.add_mailbox x) (reading.read_mailbox p text)) None (ap (λ t. t && is_none x.threads) h)

  pub behind_threads : is_none x.threads ≡ false → reading.with_mailbox p x text ≡ None
  behind_threads h = skipped (is_none x.messages && is_none x.threads) (option_and_then (reading.add_mailbox x) (reading.read_mailbox p text)) None (by (is_none x.messages))
    where
      by : (t : Bool) → (t && is_none x.threads) ≡ false
      by true = h
      by false = refl

  pub no_mailbox_read : reading.read_mailbox p text ≡ None → reading.with_mailbox p x text ≡ None
  no_mailbox_read r = by (is_none x.messages && is_none x.threads)
    where
      by : (t : Bool) → (if t then option_and_then (reading.add_mailbox x) (reading.read_mailbox p text) else None) ≡ None
      by true = ap (option_and_then (reading.add_mailbox x)) r
      by false = refl

  pub mailbox_behind : (m : lines.MailboxLine) → reading.read_mailbox p text ≡ Some m → is_next (map (λ k. k.number) x.mailboxes) m.number ≡ false → reading.with_mailbox p x text ≡ None
  mailbox_behind m r h = by (is_none x.messages && is_none x.threads)
    where
      by : (t : Bool) → (if t then option_and_then (reading.add_mailbox x) (reading.read_mailbox p text) else None) ≡ None
      by true = ap (option_and_then (reading.add_mailbox x)) r ∙ skipped (is_next (map (λ k. k.number) x.mailboxes) m.number) (Some (record x { mailboxes = x.mailboxes ++ m ∷ [] })) None h
      by false = refl

  pub message_read : (m : configs.Message) → is_none x.threads ≡ true → reading.read_message p x.mailboxes text ≡ Some m → is_next (map (λ k. k.number) x.messages) m.number ≡ true → reading.with_message p x text ≡ Some (record x { messages = x.messages ++ m ∷ [] })
  message_read m a r h =
      passed (is_none x.threads) (option_and_then (reading.add_message x) (reading.read_message p x.mailboxes text)) None a
      ∙ ap (option_and_then (reading.add_message x)) r
      ∙ passed (is_next (map (λ k. k.number) x.messages) m.number) (Some (record x { messages = x.messages ++ m ∷ [] })) None h

  pub no_message_here : is_none x.threads ≡ false → reading.with_message p x text ≡ None
  no_message_here h = skipped (is_none x.threads) (option_and_then (reading.add_message x) (reading.read_message p x.mailboxes text)) None h

  pub no_message_read : reading.read_message p x.mailboxes text ≡ None → reading.with_message p x text ≡ None
  no_message_read r = by (is_none x.threads)
    where
      by : (t : Bool) → (if t then option_and_then (reading.add_message x) (reading.read_message p x.mailboxes text) else None) ≡ None
      by true = ap (option_and_then (reading.add_message x)) r
      by false = refl

  pub message_behind : (m : configs.Message) → reading.read_message p x.mailboxes text ≡ Some m → is_next (map (λ k. k.number) x.messages) m.number ≡ false → reading.with_message p x text ≡ None
  message_behind m r h = by (is_none x.threads)
    where
      by : (t : Bool) → (if t then option_and_then (reading.add_message x) (reading.read_message p x.mailboxes text) else None) ≡ None
      by true = ap (option_and_then (reading.add_message x)) r ∙ skipped (is_next (map (λ k. k.number) x.messages) m.number) (Some (record x { messages = x.messages ++ m ∷ [] })) None h
      by false = refl

  pub thread_read : (t : lines.ThreadLine) → reading.read_thread p text ≡ Some t → is_next (map (λ k. k.number) x.threads) t.number ≡ true → reading.with_thread p x text ≡ Some (record x { threads = x.threads ++ t ∷ [] })
  thread_read t r h = ap (option_and_then (reading.add_thread x)) r ∙ passed (is_next (map (λ k. k.number) x.threads) t.number) (Some (record x { threads = x.threads ++ t ∷ [] })) None h

  pub thread_behind : (t : lines.ThreadLine) → reading.read_thread p text ≡ Some t → is_next (map (λ k. k.number) x.threads) t.number ≡ false → reading.with_thread p x text ≡ None
  thread_behind t r h = ap (option_and_then (reading.add_thread x)) r ∙ skipped (is_next (map (λ k. k.number) x.threads) t.number) (Some (record x { threads = x.threads ++ t ∷ [] })) None h
