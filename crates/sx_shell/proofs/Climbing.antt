-- What a crash leaves over several calls.
use Rattle.std.proofs.Common.{◌≡◌, ◌∙◌, ℕ, ◌≤◌, ◌⊎◌, inl, inr, ⊎_elim, List, [], ◌∷◌, ◌++◌, Option, None, Some, ap, sym, subst, arith, append_assoc, append-nil}
use Rattle.sx_layout.specs.Birth.{Birth}
use Rattle.sx_model.specs.Commit.{Commit}
use Rattle.sx_run.specs.Run.{Book, Failure}
use Rattle.sx_shell.specs.Crash.{IsFront, Second, IfSecond, StandsAtEnd, StandsDuring, Climbs, HasClimbed}
use Rattle.sx_shell.specs.Medium.{Medium}
use Rattle.sx_volume.specs.Images.{Elapses, KeptSince}
use Rattle.sx_whole.specs.Stands.{Stands, StandsOnceOpened}

climbs_le : (birth : Birth) (was : ℕ → List ℕ → Type 0) (from last : ℕ) (these more : List Commit) → Climbs birth was from last these more → from ≤ last
climbs_le birth was from last these [] climbs = climbs.0
climbs_le birth was from last these (x ∷ more) climbs = let rest = climbs_le birth was climbs.0 last (these ++ x ∷ []) more climbs.3 in omega (arith, climbs.1, rest)

-- what was said of the images up to the last moment holds after a call
climbs_on : (birth : Birth) (was is : ℕ → List ℕ → Type 0) (had has : ℕ → Type 0) (from last start end : ℕ) (these more : List Commit) → last ≤ start → Elapses start end was is had has
    → Climbs birth was from last these more → Climbs birth is from last these more
climbs_on birth was is had has from last start end these [] le time climbs = (
  climbs.0,
  λ image left.
      ⊎_elim
      (λ (earlier : was from image). ⊎_elim (λ (here : Stands image (Some birth) these). inl here) (λ (since : was last image). inr (time.keeps last image le since)) (climbs.1 image earlier))
      (λ (now : is start image). inr (time.counts last image le now))
      (time.nothing_else from image (omega (arith, climbs.0, le)) left),
)
climbs_on birth was is had has from last start end these (x ∷ more) le time climbs =
    let no_later = climbs_le birth was climbs.0 last (these ++ x ∷ []) more climbs.3 in
    let before : climbs.0 ≤ start = omega (arith, no_later, le) in (
      climbs.0,
      climbs.1,
      λ image left.
          ⊎_elim
          (λ (earlier : was from image).
          ⊎_elim (λ (here : Stands image (Some birth) these). inl here)
          (λ (rest : Stands image (Some birth) (these ++ x ∷ []) ⊎ was climbs.0 image).
          ⊎_elim (λ (one : Stands image (Some birth) (these ++ x ∷ [])). inr (inl one)) (λ (since : was climbs.0 image). inr (inr (time.keeps climbs.0 image before since))) rest)
          (climbs.2 image earlier))
          (λ (now : is start image). inr (inr (time.counts climbs.0 image before now)))
          (time.nothing_else from image (omega (arith, climbs.1, before)) left),
      climbs_on birth was is had has climbs.0 last start end (these ++ x ∷ []) more le time climbs.3,
    )

-- the last moment is a later one
climbs_to : (birth : Birth) (was : ℕ → List ℕ → Type 0) (from last end : ℕ) (these more : List Commit) → last ≤ end
    → ((image : List ℕ) → was last image → Stands image (Some birth) (these ++ more) ⊎ was end image)
    → Climbs birth was from last these more → Climbs birth was from end these more
climbs_to birth was from last end these [] le step climbs = (
  omega (arith, climbs.0, le),
  λ image left.
      ⊎_elim (λ (here : Stands image (Some birth) these). inl here)
      (λ (since : was last image). subst (λ (commits : List Commit). Stands image (Some birth) commits ⊎ was end image) (append-nil these) (step image since))
      (climbs.1 image left),
)
climbs_to birth was from last end these (x ∷ more) le step climbs =
    let seam = sym (append_assoc these (x ∷ []) more) in (
      climbs.0,
      climbs.1,
      climbs.2,
      climbs_to birth was climbs.0 last end (these ++ x ∷ []) more le (λ image since. subst (λ (commits : List Commit). Stands image (Some birth) commits ⊎ was end image) seam (step image since)) climbs.3,
    )

-- one more commit came from the last moment to another one
climbs_more : (birth : Birth) (was : ℕ → List ℕ → Type 0) (from last end : ℕ) (these more : List Commit) (next : Commit) → last ≤ end
    → ((image : List ℕ) → was last image → Stands image (Some birth) (these ++ more) ⊎ Stands image (Some birth) ((these ++ more) ++ next ∷ []) ⊎ was end image)
    → Climbs birth was from last these more → Climbs birth was from end these (more ++ next ∷ [])
climbs_more birth was from last end these [] next le step climbs = (
  end,
  omega (arith, climbs.0, le),
  λ image left.
      ⊎_elim (λ (here : Stands image (Some birth) these). inl here)
      (λ (since : was last image). subst (λ (commits : List Commit). Stands image (Some birth) commits ⊎ Stands image (Some birth) (commits ++ next ∷ []) ⊎ was end image) (append-nil these) (step image since))
      (climbs.1 image left),
  (omega arith, λ image left. inr left),
)
climbs_more birth was from last end these (x ∷ more) next le step climbs =
    let seam = sym (append_assoc these (x ∷ []) more) in (
      climbs.0,
      climbs.1,
      climbs.2,
      climbs_more birth was climbs.0 last end (these ++ x ∷ []) more next le
          (λ image since. subst (λ (commits : List Commit). Stands image (Some birth) commits ⊎ Stands image (Some birth) (commits ++ next ∷ []) ⊎ was end image) seam (step image since)) climbs.3,
    )

-- From an earlier moment on, from which each image stands for the same.
climbs_earlier : (birth : Birth) (was : ℕ → List ℕ → Type 0) (from mid last : ℕ) (these more : List Commit)
    → from ≤ mid → ((image : List ℕ) → was from image → Stands image (Some birth) these ⊎ was mid image) → Climbs birth was mid last these more → Climbs birth was from last these more
climbs_earlier birth was from mid last these [] le step climbs =
    (omega (arith, le, climbs.0), λ image left. ⊎_elim (λ (has : Stands image (Some birth) these). inl has) (λ (later : was mid image). climbs.1 image later) (step image left))
climbs_earlier birth was from mid last these (x ∷ more) le step climbs =
    (climbs.0, omega (arith, le, climbs.1), λ image left. ⊎_elim (λ (has : Stands image (Some birth) these). inl has) (λ (later : was mid image). climbs.2 image later) (step image left), climbs.3)

-- While commits come one after another, each image stands for the first of them, or comes later.
each_stands : (birth : Birth) (start : List Commit) (end : Book) (was : ℕ → List ℕ → Type 0) (from last : ℕ) (these new : List Commit) → IsFront start these → end.commits ≡ these ++ new
    → Climbs birth was from last these new
    → (image : List ℕ) → was from image → ((commits : List Commit) × IsFront start commits × IsFront commits end.commits × Stands image (Some birth) commits) ⊎ was last image
each_stands birth start end was from last these [] front on climbs image left =
    ⊎_elim (λ (here : Stands image (Some birth) these). inl (these, front, ([], on), here)) (λ (later : was last image). inr later) (climbs.1 image left)
each_stands birth start end was from last these (k ∷ new) front on climbs image left =
    let longer : IsFront start (these ++ k ∷ []) = (front.0 ++ k ∷ [], ap (λ (commits : List Commit). commits ++ k ∷ []) front.1 ∙ append_assoc start front.0 (k ∷ [])) in
    let rest : end.commits ≡ (these ++ k ∷ []) ++ new = on ∙ sym (append_assoc these (k ∷ []) new) in
    ⊎_elim (λ (here : Stands image (Some birth) these). inl (these, front, (k ∷ new, on), here))
    (λ (more : Stands image (Some birth) (these ++ k ∷ []) ⊎ was climbs.0 image).
    ⊎_elim (λ (one : Stands image (Some birth) (these ++ k ∷ [])). inl (these ++ k ∷ [], longer, (new, rest), one))
    (λ (later : was climbs.0 image). each_stands birth start end was climbs.0 last (these ++ k ∷ []) new longer rest climbs.3 image later) more)
    (climbs.2 image left)

module _ {V S E : Type 0} (g : Medium V S E) where
  -- nothing came yet
  pub climbed_none : (volume : V) (book : Book) → book.stopped ≡ None → ((image : List ℕ) → g.volume.was_image volume (g.volume.moment volume) image → Stands image (Some g.birth) book.commits)
      → HasClimbed g (g.volume.moment volume) book.commits volume book
  climbed_none volume book going have = record {
    more = [];
    grew = sym (append-nil book.commits);
    last = g.volume.moment volume;
    climbs = (omega arith, λ image left. inr left);
    no_later = omega arith;
    since_last = λ image left. inl (have image left);
    behind = subst (λ (s : Option Failure). IfSecond s (λ next. KeptSince (g.volume.moment volume) (g.volume.was_image volume) (g.volume.synced volume) (StandsOnceOpened (Some g.birth) book.commits next))) (sym going) tt;
  }

  -- the same of a book with these commits, which stopped as that one
  pub climbed_same : (from : ℕ) (start : List Commit) (volume : V) (book new : Book) → new.commits ≡ book.commits → new.stopped ≡ book.stopped → HasClimbed g from start volume book → HasClimbed g from start volume new
  climbed_same from start volume book new commits stopped climbed = record {
    more = climbed.more;
    grew = commits ∙ climbed.grew;
    last = climbed.last;
    climbs = climbed.climbs;
    no_later = climbed.no_later;
    since_last = λ image left.
        subst (λ (list : List Commit). Stands image (Some g.birth) list ⊎ Second new.stopped (λ next. Stands image (Some g.birth) (list ++ next ∷ []))) (sym commits)
        (subst (λ (s : Option Failure). Stands image (Some g.birth) book.commits ⊎ Second s (λ next. Stands image (Some g.birth) (book.commits ++ next ∷ []))) (sym stopped) (climbed.since_last image left));
    behind = subst (λ (list : List Commit). IfSecond new.stopped (λ next. KeptSince climbed.last (g.volume.was_image volume) (g.volume.synced volume) (StandsOnceOpened (Some g.birth) list next))) (sym commits)
        (subst (λ (s : Option Failure). IfSecond s (λ next. KeptSince climbed.last (g.volume.was_image volume) (g.volume.synced volume) (StandsOnceOpened (Some g.birth) book.commits next))) (sym stopped) climbed.behind);
  }

  -- while no commit failed, each image since the last moment stands for all commits
  going_on : (book : Book) (image : List ℕ) → book.stopped ≡ None → StandsAtEnd g.birth book image → Stands image (Some g.birth) book.commits
  going_on book image going stands =
      ⊎_elim (λ (here : Stands image (Some g.birth) book.commits). here)
      (λ (second : Second book.stopped (λ next. Stands image (Some g.birth) (book.commits ++ next ∷ []))). absurd (subst (λ (s : Option Failure). Second s (λ next. Stands image (Some g.birth) (book.commits ++ next ∷ []))) going second)) stands

  module _ (from : ℕ) (start : List Commit) (old new : V) (book : Book) (going : book.stopped ≡ None) (climbed : HasClimbed g from start old book)
      (time : Elapses (g.volume.moment old) (g.volume.moment new) (g.volume.was_image old) (g.volume.was_image new) (g.volume.synced old) (g.volume.synced new)) where
    -- each image since the last moment stands for the commits before the call, or comes in it
    since : (image : List ℕ) → g.volume.was_image new climbed.last image → Stands image (Some g.birth) book.commits ⊎ g.volume.was_image new (g.volume.moment old) image
    since image left =
        ⊎_elim (λ (earlier : g.volume.was_image old climbed.last image). inl (going_on book image going (climbed.since_last image earlier))) (λ (here : g.volume.was_image new (g.volume.moment old) image). inr here)
        (time.nothing_else climbed.last image climbed.no_later left)

    on : Climbs g.birth (g.volume.was_image new) from climbed.last start climbed.more
    on = climbs_on g.birth (g.volume.was_image old) (g.volume.was_image new) (g.volume.synced old) (g.volume.synced new) from climbed.last (g.volume.moment old) (g.volume.moment new) start climbed.more climbed.no_later time climbed.climbs

    -- a commit came
    pub climbed_more : (next : Commit) (after : Book) → after.commits ≡ book.commits ++ next ∷ [] → after.stopped ≡ None
        → ((image : List ℕ) → g.volume.was_image new (g.volume.moment old) image → Stands image (Some g.birth) book.commits ⊎ Stands image (Some g.birth) (book.commits ++ next ∷ []))
        → ((image : List ℕ) → g.volume.was_image new (g.volume.moment new) image → Stands image (Some g.birth) after.commits)
        → HasClimbed g from start new after
    climbed_more next after commits stopped during now = record {
      more = climbed.more ++ next ∷ [];
      grew = commits ∙ ap (λ (list : List Commit). list ++ next ∷ []) climbed.grew ∙ append_assoc start climbed.more (next ∷ []);
      last = g.volume.moment new;
      climbs = climbs_more g.birth (g.volume.was_image new) from climbed.last (g.volume.moment new) start climbed.more next (omega (arith, climbed.no_later, time.later))
          (λ image left.
          subst (λ (list : List Commit). Stands image (Some g.birth) list ⊎ Stands image (Some g.birth) (list ++ next ∷ []) ⊎ g.volume.was_image new (g.volume.moment new) image) climbed.grew
          (⊎_elim (λ (here : Stands image (Some g.birth) book.commits). inl here)
          (λ (in_call : g.volume.was_image new (g.volume.moment old) image).
          ⊎_elim (λ (here : Stands image (Some g.birth) book.commits). inl here) (λ (one : Stands image (Some g.birth) (book.commits ++ next ∷ [])). inr (inl one)) (during image in_call)) (since image left))) on;
      no_later = omega arith;
      since_last = λ image left. inl (now image left);
      behind = subst (λ (s : Option Failure). IfSecond s (λ k. KeptSince (g.volume.moment new) (g.volume.was_image new) (g.volume.synced new) (StandsOnceOpened (Some g.birth) after.commits k))) (sym stopped) tt;
    }

    -- A call after which nothing more came: since it began each image stands for the commits, or, where a commit failed in it at its
    -- second stage, for these with that one.
    pub climbed_still : (after : Book) → after.commits ≡ book.commits
        → ((image : List ℕ) → g.volume.was_image new (g.volume.moment old) image → StandsAtEnd g.birth after image)
        → IfSecond after.stopped (λ next. KeptSince (g.volume.moment old) (g.volume.was_image new) (g.volume.synced new) (StandsOnceOpened (Some g.birth) after.commits next))
        → HasClimbed g from start new after
    climbed_still after commits during behind = record {
      more = climbed.more;
      grew = commits ∙ climbed.grew;
      last = g.volume.moment old;
      climbs = climbs_to g.birth (g.volume.was_image new) from climbed.last (g.volume.moment old) start climbed.more climbed.no_later
          (λ image left. subst (λ (list : List Commit). Stands image (Some g.birth) list ⊎ g.volume.was_image new (g.volume.moment old) image) climbed.grew (since image left)) on;
      no_later = time.later;
      since_last = during;
      behind = behind;
    }

  -- From an earlier moment on, from which each image stands for what the volume stood for.
  pub climbed_earlier : (from mid : ℕ) (start : List Commit) (volume : V) (book : Book) → from ≤ mid → ((image : List ℕ) → g.volume.was_image volume from image → Stands image (Some g.birth) start ⊎ g.volume.was_image volume mid image)
      → HasClimbed g mid start volume book → HasClimbed g from start volume book
  climbed_earlier from mid start volume book le step climbed = record {
    more = climbed.more;
    grew = climbed.grew;
    last = climbed.last;
    climbs = climbs_earlier g.birth (g.volume.was_image volume) from mid climbed.last start climbed.more le step climbed.climbs;
    no_later = climbed.no_later;
    since_last = climbed.since_last;
    behind = climbed.behind;
  }

  -- each image since the moment stands for commits of the run
  pub stands_during : (from : ℕ) (start : List Commit) (volume : V) (book : Book) → HasClimbed g from start volume book → (image : List ℕ) → g.volume.was_image volume from image → StandsDuring g.birth start book image
  stands_during from start volume book climbed image left =
      ⊎_elim (λ (some : (commits : List Commit) × IsFront start commits × IsFront commits book.commits × Stands image (Some g.birth) commits). inl some)
      (λ (later : g.volume.was_image volume climbed.last image).
      ⊎_elim (λ (all : Stands image (Some g.birth) book.commits). inl (book.commits, (climbed.more, climbed.grew), ([], sym (append-nil book.commits)), all))
      (λ (next : Second book.stopped (λ next. Stands image (Some g.birth) (book.commits ++ next ∷ []))). inr next) (climbed.since_last image later))
      (each_stands g.birth start book (g.volume.was_image volume) from climbed.last start climbed.more ([], sym (append-nil start)) climbed.grew climbed.climbs image left)
