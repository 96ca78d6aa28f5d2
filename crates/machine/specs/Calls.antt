-- The ten calls, and what a call answers.
use Rattle.std.specs.Prelude.{ℕ, List}
use Rattle.pagers.specs.declared.PagerFault.{PagerFault}

-- where the first content of a page comes from: zeros, or a page of a pager's object
pub data Source : Type 0 where
  zeros : Source
  page_of : (object page : ℕ) → Source

-- a call with its arguments; of the frame memory and of a read's buffer their lengths alone
pub data Call : Type 0 where
  create : (task : ℕ) → Call
  map_pages : (task start pages : ℕ) → Source → Call
  unmap : (task start pages : ℕ) → Call
  protect : (task start pages value : ℕ) → Call
  inherit : (task start pages value : ℕ) → Call
  fork : (parent child : ℕ) → Call
  write : (memory task address : ℕ) → List ℕ → Call
  read : (memory task address count room : ℕ) → Call
  exit : (task : ℕ) → Call
  usage : Call

-- what refusal 12 carries: the pager's fault, the object and page that were fetched, the task and the call's address
pub record Fault : Type 0 where
  pub pager : PagerFault
  pub object : ℕ
  pub page : ℕ
  pub task : ℕ
  pub address : ℕ

-- done, a read's bytes, usage's four counts, a refusal from 1 to 11, or refusal 12
pub data Reply : Type 0 where
  done : Reply
  gives : List ℕ → Reply
  counts : (entries records marks frames : ℕ) → Reply
  refused : ℕ → Reply
  faulty : Fault → Reply
