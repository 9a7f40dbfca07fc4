-- A whole run, from the opening of its volume on.
use Rattle.std.proofs.Common.{◌≡◌, ◌≢◌, ◌∙◌, ℕ, ℤ, zero, suc, ◌<◌, ◌≤◌, ◌⊎◌, inl, inr, ⊎_elim, List, [], ◌++◌, length, get_or, replicate, Option, None, Some, IfSome, IsSome, option_map, refl, ap, sym, subst, arith, append-nil}
use Rattle.std.proofs.Math.Seq.{take-append_seam}
use Rattle.std.specs.Prelude.{drop, take}
use Rattle.std.proofs.lemmas.Bool.{false≢true}
use Rattle.sx_layout.specs.Birth.{Birth}
use Rattle.sx_layout.specs.Born.{HasLog}
use Rattle.sx_layout.specs.FrameGroup.{FrameGroup}
use Rattle.sx_model.specs.Commit.{Commit}
use Rattle.sx_outside.specs.Faults.{Rose}
use Rattle.sx_run.specs.Client.{client_count}
use Rattle.sx_run.specs.Run.{Book, Client, Course, Failure, book_of, started}
use Rattle.sx_script.proofs.Following.{given_nothing}
use Rattle.sx_script.specs.Waiting.{nothing_taken}
use Rattle.sx_shell.proofs.Climbing.{climbed_none, climbed_earlier, stands_during}
use Rattle.sx_shell.proofs.EndFaults.{none_failed, none_yet}
use Rattle.sx_shell.proofs.Still.{when_some}
use Rattle.sx_shell.proofs.StoreLaws.{bytes_stand, grows_none, keeps_all}
use Rattle.sx_store.proofs.Ledgers.{images_have, images_stand}
use Rattle.sx_shell.specs.Crash.{HasClimbed, IsSafe}
use Rattle.sx_shell.specs.Done.{Continues, HaveAll, place}
use Rattle.sx_shell.specs.Live.{Around, HasRun, IsBeforeSync, IsKept, IsWhole, KeepsSince}
use Rattle.sx_shell.specs.Medium.{AllTell, Medium, NoneFailed, terms_of}
use Rattle.sx_shell.specs.Outcome.{Outcome, Told}
use Rattle.sx_shell.specs.Progress.{Ended, Progress}
use Rattle.sx_shell.specs.Shows.{IsReady}
use Rattle.sx_shell.specs.declared.status.Status.{Status}
use Rattle.sx_shell.specs.declared.status.Status.TheVariants.{VolumeFault}
use Rattle.sx_store.specs.Opening.{IsSynced, IsUnsynced}
use Rattle.sx_store.specs.Shows as store
use Rattle.sx_store.specs.Shows.{birth_in, stage_of}
use Rattle.sx_store.specs.Sound.{IsReadOf, IsSound}
use Rattle.sx_store.specs.declared.ledger.Ledger.{Ledger}
use Rattle.sx_volume.specs.Images.{Elapses}
use Rattle.sx_volume.specs.declared.spot.Spot as spot
use Rattle.sx_volume.specs.declared.volume.Volume as volume
use Rattle.sx_whole.specs.Stands.{KeepsAll, Stands}

-- what holds of the bytes where they are told
pub at_told : (P : List ℕ → Type 0) (bytes : Option (List ℕ)) (image : List ℕ) → bytes ≡ Some image → IfSome bytes P → P image
at_told P bytes image is holds = subst (λ (b : Option (List ℕ)). IfSome b P) is holds

-- bytes that are told
told_bytes : (bytes : Option (List ℕ)) → IsSome bytes → (all : List ℕ) × (bytes ≡ Some all)
told_bytes None some = absurd (false≢true some)
told_bytes (Some all) some = (all, refl)

-- a commit that failed has its stage
some_stage : (o : Option Failure) → IsSome o → IsSome (option_map (λ (failure : Failure). failure.stage) o)
some_stage None some = some
some_stage (Some failure) some = refl

-- nothing was written
pub nothing_more : (before : List ℕ) (written : Option (List ℕ)) → written ≡ Some before → written ≡ Some (before ++ [])
nothing_more before written is = is ∙ ap (λ (b : List ℕ). Some b) (sym (append-nil before))

-- each client has revision 0 open
zeros : (n i : ℕ) → get_or {A = ℕ} (replicate n 0) i 0 ≡ 0
zeros zero i = refl
zeros (suc n) zero = refl
zeros (suc n) (suc i) = zeros n i

-- no read has failed yet
none_of : (seen n : ℕ) → NoneFailed (replicate n (record { revision = 0; seen = seen; failed = 0 }))
none_of seen zero = tt
none_of seen (suc n) = (refl, none_of seen n)

clients_of : (seen n : ℕ) → length {A = Client} (replicate n (record { revision = 0; seen = seen; failed = 0 })) ≡ n
clients_of seen zero = refl
clients_of seen (suc n) = ap (λ (k : ℕ). suc k) (clients_of seen n)

module _ {V S E : Type 0} (g : volume.Ghosts V S E) (old mid : V) (image : List ℕ) where
  -- the opening came to the success of its sync, or may not have come to it
  abbrev pub MayBeOpened : Type 0
  MayBeOpened = IsSynced g image old mid ⊎ IsUnsynced g old mid

  opened_stands : (birth : Birth) (commits : List Commit) (synced : IsSynced g image old mid) → Stands image (Some birth) commits → (c : List ℕ) → g.was_image mid synced.moment c → Stands c (Some birth) commits
  opened_stands birth commits synced stands c left = subst (λ (b : List ℕ). Stands b (Some birth) commits) (sym (synced.since c left)) stands

  opened_keeps : (synced : IsSynced g image old mid) → IsWhole image → (c : List ℕ) → g.was_image mid synced.moment c → KeepsAll image c
  opened_keeps synced whole c left =
      subst (λ (b : List ℕ). KeepsAll image b) (sym (synced.since c left)) (whole.0, whole.1, [], whole.2, subst (λ (groups : List FrameGroup). HasLog image whole.0 groups) (sym (append-nil whole.1)) whole.2.0)

-- the same run, between the same volumes and ends
-- as many as there are, before others
pub all_kept : {E : Type 0} (new old : List E) (count : ℕ) → count ≡ length new → new ≡ take count (new ++ drop (length new) old)
all_kept new old count long = sym (ap (λ (n : ℕ). take n (new ++ drop (length new) old)) long ∙ take-append_seam new (drop (length new) old))

pub run_around : {V S E : Type 0} (g : Medium V S E) (a b : Around V E) (start : Course) (told : Told) (status : Status) → a.old ≡ b.old → a.new ≡ b.new → a.ends ≡ b.ends → a.ends_after ≡ b.ends_after
    → HasRun g a start told status → HasRun g b start told status
run_around {V} {S} {E} g a b start told status old new ends after run =
    subst (λ (v : V). HasRun g (record { old = v; new = b.new; ends = b.ends; ends_after = b.ends_after }) start told status) old
    (subst (λ (v : V). HasRun g (record { old = a.old; new = v; ends = b.ends; ends_after = b.ends_after }) start told status) new
    (subst (λ (l : List E). HasRun g (record { old = a.old; new = a.new; ends = l; ends_after = b.ends_after }) start told status) ends
    (subst (λ (l : List E). HasRun g (record { old = a.old; new = a.new; ends = a.ends; ends_after = l }) start told status) after run)))

-- ---- no line was run

module _ {V S E : Type 0} (g : Medium V S E) (old mid : V) (image : List ℕ) (counts : (t : ℕ) (c : List ℕ) → t ≤ g.volume.moment mid → g.volume.is_image mid c → g.volume.was_image mid t c) where
  safe_opened : (commits : List Commit) → Stands image (Some g.birth) commits → IsSynced g.volume image old mid → IsSafe g old mid commits (book_of commits)
  safe_opened commits stands synced =
      let stand = opened_stands g.volume old mid image g.birth commits synced stands in record {
        moment = synced.moment;
        later = synced.later;
        synced = synced.here;
        first = synced.first;
        up_to = synced.up_to;
        since = λ c left. inl (commits, ([], sym (append-nil commits)), ([], sym (append-nil commits)), stand c left);
        held = record {
          more = [];
          grew = sym (append-nil commits);
          last = synced.moment;
          climbs = (omega arith, λ c left. inr left);
          no_later = synced.no_later;
          since_last = λ c left. inl (stand c left);
          behind = tt;
        };
        at_end = λ c left. inl (stand c (counts synced.moment c synced.no_later left));
      }

  -- a run whose opening was refused
  pub refused_run : (ends : List E) (commits : List Commit) (moments : Option (List ℤ)) (input : List ℕ) (status : Status) → length ends ≡ client_count → Stands image (Some g.birth) commits → IsBeforeSync status
      → Outcome (terms_of g.birth) (started commits moments) (record { input = input; left = input; written = [] }) status (started commits moments)
      → (status ≢ VolumeFault → g.volume.bytes mid ≡ Some image) → MayBeOpened g.volume old mid image
      → HasRun g (record { old = old; new = mid; ends = ends; ends_after = ends }) (started commits moments) (record { input = input; left = input; written = [] }) status
  refused_run ends commits moments input status each stands early outcome bytes opened = record {
    end = started commits moments;
    outcome = outcome;
    risen = none_yet g.end ends (started commits moments).clients (clients_of (length commits) client_count ∙ sym each) (none_of (length commits) client_count);
    none_failed = λ none. none_of (length commits) client_count;
    stands = λ fine going. (image, bytes fine, stands);
    safe = ⊎_elim (λ (synced : IsSynced g.volume image old mid). inl (safe_opened commits stands synced))
        (λ (unsynced : IsUnsynced g.volume old mid). inr (record { early = early; images = unsynced }, (refl, refl, refl))) opened;
    cause = λ some. absurd (cc some);
  }

module _ {V S E : Type 0} (g : volume.Ghosts V S E) (old mid : V) (image : List ℕ) (counts : (t : ℕ) (c : List ℕ) → t ≤ g.moment mid → g.is_image mid c → g.was_image mid t c) where
  kept_opened : IsWhole image → IsSynced g image old mid → KeepsSince g old mid image
  kept_opened whole synced =
      let keep = opened_keeps g old mid image synced whole in record {
        holds = record { moment = synced.moment; later = synced.later; no_later = synced.no_later; here = synced.here; first = synced.first; up_to = synced.up_to; since = keep };
        at_end = λ c left. keep c (counts synced.moment c synced.no_later left);
      }

  pub refused_kept : (status : Status) → IsWhole image → IsBeforeSync status → (status ≢ VolumeFault → g.bytes mid ≡ g.bytes old) → MayBeOpened g old mid image → IsKept g old mid image status
  refused_kept status whole early bytes opened =
      ⊎_elim (λ (synced : IsSynced g image old mid). inl (kept_opened whole synced))
      (λ (unsynced : IsUnsynced g old mid). inr (record { early = early; images = unsynced }, bytes)) opened

-- ---- a script was run

module _ {V S E : Type 0} (g : Medium V S E) where
  -- nothing was read yet
  pub begins : (volume : V) (ledger : Ledger S) (ends : List E) (commits : List Commit) (moments : Option (List ℤ)) (input before : List ℕ) (left written : Option (List ℕ))
      → left ≡ Some input → written ≡ Some before → IsSome (g.volume.bytes volume) → IsSound g.volume g.spot volume ledger → store.Shows g.spot ledger (book_of commits) → birth_in ledger ≡ g.birth → stage_of ledger ≡ None
      → AllTell g.end ends → length ends ≡ client_count → ((c : List ℕ) → g.volume.was_image volume (g.volume.moment volume) c → g.volume.is_image volume c)
      → Progress g (record { course = started commits moments; ends = ends; input = input; before = before; from = g.volume.moment volume }) left nothing_taken (place volume ledger ends (replicate 32 0) written moments)
  begins volume ledger ends commits moments input before left written left_is written_is told sound shows birth going tell each only =
      let stand : (image : List ℕ) → g.volume.is_image volume image → Stands image (Some g.birth) commits =
      subst (λ (b : Birth). (image : List ℕ) → g.volume.is_image volume image → Stands image (Some b) commits) birth
      (when_some (g.volume.bytes volume) told (images_stand g.volume g.spot volume ledger sound going (book_of commits) shows)) in record {
        rest = input;
        given = [];
        items = [];
        out = [];
        course = started commits moments;
        left_is = left_is;
        at = given_nothing input;
        items_are = tt;
        ran = (refl, refl);
        written_is = nothing_more before written written_is;
        shows = record { book = shows; birth = birth; tell = tell; clients = refl; count = refl; moments_are = refl };
        risen = none_yet g.end ends (started commits moments).clients (clients_of (length commits) client_count ∙ sym each) (none_of (length commits) client_count);
        told = told;
        climbed = climbed_none g volume (book_of commits) refl (λ c left. stand c (only c left));
      }

  module _ (old mid new : V) (image : List ℕ) (synced : IsSynced g.volume image old mid)
      (time : Elapses (g.volume.moment mid) (g.volume.moment new) (g.volume.was_image mid) (g.volume.was_image new) (g.volume.synced mid) (g.volume.synced new))
      (counts : (t : ℕ) (c : List ℕ) → t ≤ g.volume.moment new → g.volume.is_image new c → g.volume.was_image new t c) where
    -- an image since the sync came while the volume was opened, or later
    since_sync : (c : List ℕ) → g.volume.was_image new synced.moment c → g.volume.was_image mid synced.moment c ⊎ g.volume.was_image new (g.volume.moment mid) c
    since_sync c left = time.nothing_else synced.moment c synced.no_later left

    here_first : (t : ℕ) → t < synced.moment → g.volume.synced new t → g.volume.synced old t
    here_first t lt sync = synced.first t lt (time.no_sync_before t (let no_later = synced.no_later in omega (arith, lt, no_later)) sync)

    up_to_sync : (c : List ℕ) → g.volume.was_image new (g.volume.moment old) c → g.volume.is_image old c ⊎ g.volume.was_image new synced.moment c
    up_to_sync c left =
        ⊎_elim
        (λ (earlier : g.volume.was_image mid (g.volume.moment old) c).
        ⊎_elim (λ (first : g.volume.is_image old c). inl first) (λ (since : g.volume.was_image mid synced.moment c). inr (time.keeps synced.moment c synced.no_later since)) (synced.up_to c earlier))
        (λ (here : g.volume.was_image new (g.volume.moment mid) c). inr (time.counts synced.moment c synced.no_later here))
        (time.nothing_else (g.volume.moment old) c (let later = synced.later in let no_later = synced.no_later in omega (arith, later, no_later)) left)

    safe_run : (commits : List Commit) (end : Book) → Stands image (Some g.birth) commits → HasClimbed g (g.volume.moment mid) commits new end → IsSafe g old new commits end
    safe_run commits end stands climbed =
        let stand = opened_stands g.volume old mid image g.birth commits synced stands in
        let held : HasClimbed g synced.moment commits new end =
        climbed_earlier g synced.moment (g.volume.moment mid) commits new end synced.no_later
        (λ c left. ⊎_elim (λ (earlier : g.volume.was_image mid synced.moment c). inl (stand c earlier)) (λ (here : g.volume.was_image new (g.volume.moment mid) c). inr here) (since_sync c left)) climbed in record {
          moment = synced.moment;
          later = synced.later;
          synced = time.syncs synced.moment synced.here;
          first = here_first;
          up_to = up_to_sync;
          since = stands_during g synced.moment commits new end held;
          held = held;
          at_end = λ c left. climbed.since_last c (counts climbed.last c climbed.no_later left);
        }

    -- all that was read is kept
    pub kept_run : (ledger : Ledger S) → IsReadOf g.spot image ledger → HaveAll g.volume g.spot (g.volume.moment mid) new ledger → KeepsSince g.volume old new image
    kept_run ledger read have =
        let whole : IsWhole image = (birth_in ledger, read.0.0, read.0.1) in
        let since : (c : List ℕ) → g.volume.was_image new synced.moment c → KeepsAll image c =
        (λ c left.
        ⊎_elim (λ (earlier : g.volume.was_image mid synced.moment c). opened_keeps g.volume old mid image synced whole c earlier)
        (λ (here : g.volume.was_image new (g.volume.moment mid) c). keeps_all g.spot image ledger c read (have c here)) (since_sync c left)) in record {
          holds = record {
            moment = synced.moment;
            later = synced.later;
            no_later = let no_later = synced.no_later in let more = time.later in omega (arith, no_later, more);
            here = time.syncs synced.moment synced.here;
            first = here_first;
            up_to = up_to_sync;
            since = since;
          };
          at_end = λ c left. since c (counts synced.moment c (let no_later = synced.no_later in let more = time.later in omega (arith, no_later, more)) left);
        }

    -- a run that ended behind its opening
    pub ended_run : (ends news : List E) (commits : List Commit) (moments now : Option (List ℤ)) (input before : List ℕ) (left written : Option (List ℕ)) (ledger : Ledger S) (revisions : List ℕ) (status : Status)
        → Stands image (Some g.birth) commits → birth_in ledger ≡ g.birth → IsSound g.volume g.spot new ledger → (IsSome (stage_of ledger) → Rose (g.volume.faults old) (g.volume.faults new))
        → (ended : Ended g (record { course = started commits moments; ends = ends; input = input; before = before; from = g.volume.moment mid }) left (place new ledger news revisions written now) status)
        → HasRun g (record { old = old; new = new; ends = ends; ends_after = news }) (started commits moments) (record { input = input; left = ended.rest; written = ended.out }) status
    ended_run ends news commits moments now input before left written ledger revisions status stands birth sound failed ended = record {
      end = ended.end;
      outcome = ended.outcome;
      risen = ended.risen;
      none_failed = λ none. none_failed g.end ends news ended.end.clients ended.risen none;
      stands = λ fine going.
          let all = told_bytes (g.volume.bytes new) ended.told in
          let writes : stage_of ledger ≡ None = ended.shows.stopped ∙ ap (λ (s : Option Failure). option_map (λ (failure : Failure). failure.stage) s) going in (
            all.0,
            all.1,
            subst (λ (b : Birth). Stands all.0 (Some b) ended.end.book.commits) birth
                (at_told (λ (b : List ℕ). Stands b (Some (birth_in ledger)) ended.end.book.commits) (g.volume.bytes new) all.0 all.1
                (bytes_stand g.volume g.spot new ledger ended.end.book sound ended.shows writes)),
          );
      safe = inl (safe_run commits ended.end.book stands ended.climbed);
      cause = λ some. failed (subst (λ (o : Option ℕ). IsSome o) (sym ended.shows.stopped) (some_stage ended.end.book.stopped some));
    }

module _ {V S E : Type 0} (g : volume.Ghosts V S E) (s : spot.Ghosts S) where
  -- a desk over a volume that was opened
  pub ready_first : (volume : V) (ledger : Ledger S) (ends : List E) → IsSound g s volume ledger → length ends ≡ client_count → IsReady g s volume ledger ends (replicate 32 0)
  ready_first volume ledger ends sound each = record { sound = sound; there = λ client. let none = zeros 32 client in omega (arith, none); each = each }

  -- what a script leaves of all that was read
  pub has_still : (mid new : V) (before after : Ledger S) → IsSome (g.bytes mid) → IsSound g s mid before → stage_of before ≡ None
      → ((c : List ℕ) → g.was_image mid (g.moment mid) c → g.is_image mid c) → Continues g s mid new before after → HaveAll g s (g.moment mid) new before
  has_still mid new before after told sound going only continues =
      let have = when_some (g.bytes mid) told (images_have g s mid before sound going) in
      when_some (g.bytes mid) told continues.keeps (g.moment mid) before (omega arith) (grows_none s before) (λ c left. have c (only c left))
