-- Which option of the command line is read where.
use Rattle.std.specs.Prelude.{◌≡◌, ◌<◌, ◌⊎◌, ℕ, Bool, true, false, List, Option, None, Some, Result, codes, unwrap_or, []}
use Rattle.std.specs.Borrow.{Bor}
use Rattle.clap.specs.Words.{first_value, one_text, ReadsOne}
use Rattle.clap.specs.declared.parser.matches.Found.{Found}
use Rattle.control.specs.declared.place.Place.{Place}
use Rattle.control.specs.Place.{IsPlaceText}
use Rattle.running.specs.Bounds.{watches_of}
use Rattle.running.specs.declared.bounds.Bounds.{Bounds}
use Rattle.running.specs.declared.run_options.BadOption.{BadOption}
use Rattle.running.specs.declared.run_options.BadOption.TheVariants.{Listen, Plain, Control, Report, Watches}
use Rattle.running.specs.declared.run_options.Source.{Source}
use Rattle.running.specs.declared.run_options.Source.TheVariants.{StandardInput, File}

-- the path of a script, where it is read from a file
abbrev pub path_of : Source → Option (List ℕ)
path_of StandardInput = None
path_of (File path) = Some path.now

-- a text, where there is one
abbrev pub text_of : Option (Bor (List ℕ)) → Option (List ℕ)
text_of None = None
text_of (Some text) = Some text.now

-- the option of this name is read as this value, as its type reads a text: none where there is no such option, or its text is none
pub record IsReadAs {T E : Type 0} (gives : List ℕ → Result T E → Type 0) (found : Found) (name : List ℕ) (value : Option T) : Type 0 where
  pub none : one_text found name ≡ None → value ≡ None
  pub some : (text : List ℕ) → one_text found name ≡ Some text → ReadsOne gives text value

-- the option of this name is read as this address, and there is none only where there is no such option
pub record IsAddressIn {T E : Type 0} (gives : List ℕ → Result T E → Type 0) (found : Found) (name : List ℕ) (addr : Option T) : Type 0 where
  pub is_read : IsReadAs gives found name addr
  pub unasked : addr ≡ None → first_value found name ≡ None

-- the addresses of the options `listen`, which is always there, and `plain`
pub record AreAddressesIn {T E : Type 0} (gives : List ℕ → Result T E → Type 0) (found : Found) (listen : T) (plain : Option T) : Type 0 where
  pub listen_read : IsReadAs gives found (codes "listen") (Some listen)
  pub plain_is : IsAddressIn gives found (codes "plain") plain

-- the bounds are those of the options `connections` and `watches`, each read as a number
pub record AreBoundsIn {E : Type 0} (gives : List ℕ → Result ℕ E → Type 0) (found : Found) (bounds : Bounds) : Type 0 where
  pub connections : Option ℕ
  pub watches : Option ℕ
  pub connections_read : IsReadAs gives found (codes "connections") connections
  pub watches_read : IsReadAs gives found (codes "watches") watches
  pub connections_are : bounds.connections ≡ unwrap_or connections 1
  pub watches_are : bounds.watches ≡ watches_of bounds.connections watches

-- the flag is raised where its text says so, and not where it has none
pub record IsFlagIn (text : Option (List ℕ)) (raised : Bool) : Type 0 where
  pub none : text ≡ None → raised ≡ false
  pub yes : text ≡ Some (codes "true") → raised ≡ true
  pub no : text ≡ Some (codes "false") → raised ≡ false

-- the place is what the option's text says, and there is none exactly where there is no such option
abbrev pub IsPlaceIn : Option (List ℕ) → Option Place → Type 0
IsPlaceIn None None = Unit {0}
IsPlaceIn None (Some place) = ⊥
IsPlaceIn (Some text) None = ⊥
IsPlaceIn (Some text) (Some place) = IsPlaceText text place

-- the numbers of the options `connections` and `watches` are no bounds: there are no connections, or more Watches than those
pub record AreTooMany {E : Type 0} (gives : List ℕ → Result ℕ E → Type 0) (found : Found) (watches connections : ℕ) : Type 0 where
  pub connections_asked : Option ℕ
  pub watches_asked : Option ℕ
  pub connections_read : IsReadAs gives found (codes "connections") connections_asked
  pub watches_read : IsReadAs gives found (codes "watches") watches_asked
  pub connections_are : connections ≡ unwrap_or connections_asked 1
  pub watches_are : watches ≡ unwrap_or watches_asked 0
  pub many : (connections ≡ 0) ⊎ (connections < watches_of connections watches_asked)

-- the option of this name has this text, which names no place
pub record IsNoPlace (found : Found) (name text : List ℕ) : Type 0 where
  pub has : first_value found name ≡ Some text
  pub none : (place : Place) → ¬ IsPlaceText text place

module _ {T A E : Type 0} (addr_gives : List ℕ → Result T A → Type 0) (number_gives : List ℕ → Result ℕ E → Type 0) (found : Found) where
  -- there is an address to listen at
  abbrev pub HasListen : Type 0
  HasListen = (addr : T) × IsReadAs addr_gives found (codes "listen") (Some addr)

  -- the address of plain requests is one, or there is none
  abbrev pub HasPlain : Type 0
  HasPlain = (addr : Option T) × IsAddressIn addr_gives found (codes "plain") addr

  -- the option of this name is there and names a place, or is not there
  abbrev pub HasPlace : List ℕ → Type 0
  HasPlace name = (place : Option Place) × IsPlaceIn (first_value found name) place

  -- the first that is wrong of these: the address to listen at, that of plain requests, the place of changes, that of reports, the bounds
  abbrev pub IsBadIn : BadOption → Type 0
  IsBadIn (Listen text) = IsReadAs addr_gives found (codes "listen") None × (text.now ≡ unwrap_or (first_value found (codes "listen")) [])
  IsBadIn (Plain text) = HasListen × IsReadAs addr_gives found (codes "plain") None × (first_value found (codes "plain") ≡ Some text.now)
  IsBadIn (Control text) = HasListen × HasPlain × IsNoPlace found (codes "control") text.now
  IsBadIn (Report text) = HasListen × HasPlain × HasPlace (codes "control") × IsNoPlace found (codes "report") text.now
  IsBadIn (Watches watches connections) = HasListen × HasPlain × HasPlace (codes "control") × HasPlace (codes "report") × AreTooMany number_gives found watches connections

-- the bounds alone are wrong
abbrev pub IsBadBounds : {E : Type 0} → (List ℕ → Result ℕ E → Type 0) → Found → BadOption → Type 0
IsBadBounds gives found (Listen text) = ⊥
IsBadBounds gives found (Plain text) = ⊥
IsBadBounds gives found (Control text) = ⊥
IsBadBounds gives found (Report text) = ⊥
IsBadBounds gives found (Watches watches connections) = AreTooMany gives found watches connections

-- the address of plain requests alone is wrong
abbrev pub IsBadPlain : {T E : Type 0} → (List ℕ → Result T E → Type 0) → Found → BadOption → Type 0
IsBadPlain gives found (Listen text) = ⊥
IsBadPlain gives found (Plain text) = IsReadAs gives found (codes "plain") None × (first_value found (codes "plain") ≡ Some text.now)
IsBadPlain gives found (Control text) = ⊥
IsBadPlain gives found (Report text) = ⊥
IsBadPlain gives found (Watches watches connections) = ⊥

-- the place of changes alone is wrong
abbrev pub IsBadControl : Found → BadOption → Type 0
IsBadControl found (Listen text) = ⊥
IsBadControl found (Plain text) = ⊥
IsBadControl found (Control text) = IsNoPlace found (codes "control") text.now
IsBadControl found (Report text) = ⊥
IsBadControl found (Watches watches connections) = ⊥

-- the place of reports alone is wrong
abbrev pub IsBadReport : Found → BadOption → Type 0
IsBadReport found (Listen text) = ⊥
IsBadReport found (Plain text) = ⊥
IsBadReport found (Control text) = ⊥
IsBadReport found (Report text) = IsNoPlace found (codes "report") text.now
IsBadReport found (Watches watches connections) = ⊥
